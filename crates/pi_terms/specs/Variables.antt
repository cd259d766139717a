-- The variables of a term, each once, in the order of their first occurrences from the left.
use Rattle.std.specs.Prelude.{◌≡◌, ◌≢◌, ◌⊎◌, ◌↔◌, ℕ, ◌==◌, not, List, [], ◌∷◌, ◌++◌, filter, Contains, AllPairs}
use Rattle.pi_terms.specs.Tree.{Tree, var, int, atom, comp, Trees, no_trees, tree}

-- the variables at all places of a term, from the left
unfoldable mutual
  pub occurrences : Tree → List ℕ
  occurrences (var n) = n ∷ []
  occurrences (int n) = []
  occurrences (atom name) = []
  occurrences (comp name ts) = occurrences_all ts

  pub occurrences_all : Trees → List ℕ
  occurrences_all no_trees = []
  occurrences_all (tree t ts) = occurrences t ++ occurrences_all ts

-- each number once, at its first place
unfoldable pub firsts : List ℕ → List ℕ
firsts [] = []
firsts (n ∷ ns) = n ∷ filter (λ m. not (m == n)) (firsts ns)

abbrev pub variables : Tree → List ℕ
variables t = firsts (occurrences t)

-- no variable occurs in it
abbrev pub IsGround : Tree → Type 0
IsGround t = variables t ≡ []

-- a variable occurs in a term
unfoldable mutual
  pub Occurs : ℕ → Tree → Type 0
  Occurs n (var m) = m ≡ n
  Occurs n (int m) = ⊥
  Occurs n (atom name) = ⊥
  Occurs n (comp name ts) = OccursInAny n ts

  pub OccursInAny : ℕ → Trees → Type 0
  OccursInAny n no_trees = ⊥
  OccursInAny n (tree t ts) = Occurs n t ⊎ OccursInAny n ts

-- the variables of a term are just those that occur in it, and each stands once
abbrev pub VariablesAreThoseThatOccur : Type 0
VariablesAreThoseThatOccur = (t : Tree) (n : ℕ) → Contains (variables t) n ↔ Occurs n t

abbrev pub VariablesStandOnce : Type 0
VariablesStandOnce = (t : Tree) → AllPairs (λ m n. m ≢ n) (variables t)

abbrev pub GroundHasNoVariable : Type 0
GroundHasNoVariable = (t : Tree) → IsGround t ↔ ((n : ℕ) → Occurs n t → ⊥)
