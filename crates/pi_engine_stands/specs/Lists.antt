-- The values that are collected, as terms of the store, and the list of them.
use Rattle.std.specs.Prelude.{◌≡◌, ℕ, ◌+◌, List, [], ◌∷◌, codes}
use Rattle.pi_terms.specs.Tree.{Tree, atom, Trees, no_trees, tree}
use Rattle.pi_terms.specs.Copy.{copy, new_variables}
use Rattle.pi_constraints.specs.State.{next}
use Rattle.pi_constraints.specs.Store.{StoreView, AreTerms, Keeps}
use Rattle.pi_constraints.specs.Evaluation.{with_new_variables}
use Rattle.pi_terms.specs.ListCopies.{list_cell, new_in_all}
use Rattle.pi_constraints.specs.declared.store.Ref.{Ref}

-- copies of values, each with variables of its own, from a number on
unfoldable pub copies : ℕ → List Tree → Trees
copies n [] = no_trees
copies n (t ∷ ts) = tree (copy n t) (copies (n + new_variables t) ts)

-- the list of terms
unfoldable pub list_of : Trees → Tree
list_of no_trees = atom (codes "[]")
list_of (tree t ts) = list_cell t (list_of ts)

-- values are placed in the store, from the first
pub record PlacesValues {M : Type 0} (v w : StoreView M) (values : List Tree) (rs : List Ref) : Type 0 where
  pub keeps : Keeps v w
  pub state : w.now.state ≡ with_new_variables (new_in_all values) v.now.state
  pub terms : AreTerms w rs (copies (next v.now.state) values)
