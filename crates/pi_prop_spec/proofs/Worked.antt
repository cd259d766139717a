-- Terms in short, for examples.
use Rattle.std.specs.Prelude.{ℕ, ℤ, pos, List, [], ◌∷◌, codes}
use Rattle.pi_terms.specs.Tree.{Tree, int, comp, trees_of}
use Rattle.pi_effects.specs.Items.{list_of}
use Rattle.pi_constraints.specs.declared.constraint.Rel.{Rel}
use Rattle.pi_constraints.specs.declared.constraint.Constraint.{Constraint}
use Rattle.pi_prop_spec.specs.Postings.{Posting}

abbrev pub one : List ℕ → Tree → Tree
one name t = comp name (trees_of (t ∷ []))

abbrev pub two : List ℕ → Tree → Tree → Tree
two name t u = comp name (trees_of (t ∷ u ∷ []))

abbrev pub n : ℕ → Tree
n k = int (pos k)

abbrev pub plus : Tree → Tree → Tree
plus t u = two (codes "+") t u

abbrev pub minus : Tree → Tree → Tree
minus t u = two (codes "-") t u

abbrev pub times : Tree → Tree → Tree
times t u = two (codes "*") t u

abbrev pub negative : Tree → Tree
negative t = one (codes "-") t

abbrev pub absolute : Tree → Tree
absolute t = one (codes "abs") t

abbrev pub sum : List Tree → Tree
sum ts = one (codes "sum") (list_of ts)

-- c * variable
abbrev pub term : ℤ → ℕ → ℤ × ℕ
term c k = (c, k)

abbrev pub at_most : List (ℤ × ℕ) → ℤ → Constraint
at_most terms constant = Constraint.Linear Rel.AtMost terms constant

abbrev pub equal : List (ℤ × ℕ) → ℤ → Constraint
equal terms constant = Constraint.Linear Rel.Equal terms constant

abbrev pub posts : ℕ → List Constraint → Posting
posts fresh list = record { fresh = fresh; list = list }
