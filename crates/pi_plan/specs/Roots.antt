-- Terms by what they are at their roots: how two of them stand, and the variables among them.
use Rattle.std.specs.Prelude.{ℕ, Bool, true, false, List, [], ◌∷◌}
use Rattle.std.specs.Ordering.{nat_cmp, int_cmp, ordering_then}
use Rattle.std.specs.declared.cmp.Ordering.{Ordering}
use Rattle.std.specs.declared.cmp.Ordering.TheVariants.{Less, Greater}
use Rattle.pi_terms.specs.Tree.{Tree, var, int, atom, comp}
use Rattle.pi_terms.specs.Order.{name_order}
use Rattle.pi_terms.specs.declared.term.TermHead.{TermHead}

abbrev pub head_order : TermHead → TermHead → Ordering
head_order (TermHead.Var m) (TermHead.Var n) = nat_cmp m n
head_order (TermHead.Var m) (TermHead.Int n) = Less
head_order (TermHead.Var m) (TermHead.Atom b) = Less
head_order (TermHead.Var m) (TermHead.Comp g n) = Less
head_order (TermHead.Int m) (TermHead.Var n) = Greater
head_order (TermHead.Int m) (TermHead.Int n) = int_cmp m n
head_order (TermHead.Int m) (TermHead.Atom b) = Less
head_order (TermHead.Int m) (TermHead.Comp g n) = Less
head_order (TermHead.Atom a) (TermHead.Var n) = Greater
head_order (TermHead.Atom a) (TermHead.Int n) = Greater
head_order (TermHead.Atom a) (TermHead.Atom b) = name_order a.now b.now
head_order (TermHead.Atom a) (TermHead.Comp g n) = Less
head_order (TermHead.Comp f m) (TermHead.Var n) = Greater
head_order (TermHead.Comp f m) (TermHead.Int n) = Greater
head_order (TermHead.Comp f m) (TermHead.Atom b) = Greater
head_order (TermHead.Comp f m) (TermHead.Comp g n) = ordering_then (nat_cmp m n) (name_order f.now g.now)

abbrev pub is_variable_head : TermHead → Bool
is_variable_head (TermHead.Var n) = true
is_variable_head (TermHead.Int n) = false
is_variable_head (TermHead.Atom name) = false
is_variable_head (TermHead.Comp name k) = false

-- the numbers of the variables in a list of terms
abbrev pub bare_variables : List Tree → List ℕ
bare_variables [] = []
bare_variables (var n ∷ ts) = n ∷ bare_variables ts
bare_variables (int n ∷ ts) = bare_variables ts
bare_variables (atom name ∷ ts) = bare_variables ts
bare_variables (comp name us ∷ ts) = bare_variables ts
