-- Substitution: the instance of a term that has a term in place of each of its variables.
use Rattle.std.specs.Prelude.{◌≡◌, ℕ}
use Rattle.pi_terms.specs.Tree.{Tree, var, int, atom, comp, Trees, no_trees, tree}
use Rattle.pi_terms.specs.Variables.{IsGround, Occurs}

unfoldable mutual
  pub instance : (ℕ → Tree) → Tree → Tree
  instance s (var n) = s n
  instance s (int n) = int n
  instance s (atom name) = atom name
  instance s (comp name ts) = comp name (instances s ts)

  pub instances : (ℕ → Tree) → Trees → Trees
  instances s no_trees = no_trees
  instances s (tree t ts) = tree (instance s t) (instances s ts)

-- one substitution after another: s, then r in what s gives
abbrev pub after : (ℕ → Tree) → (ℕ → Tree) → ℕ → Tree
after r s n = instance r (s n)

abbrev pub SubstitutionComposes : Type 0
SubstitutionComposes = (r s : ℕ → Tree) (t : Tree) → instance r (instance s t) ≡ instance (after r s) t

abbrev pub GroundStays : Type 0
GroundStays = (s : ℕ → Tree) (t : Tree) → IsGround t → instance s t ≡ t

-- only what is put in place of the variables of a term counts
abbrev pub OnlyItsVariablesCount : Type 0
OnlyItsVariablesCount = (r s : ℕ → Tree) (t : Tree) → ((n : ℕ) → Occurs n t → r n ≡ s n) → instance r t ≡ instance s t
