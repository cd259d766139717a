-- Terms that are put into a store from their last node to their first, by the nodes that were put so far.
use Rattle.std.specs.Prelude.{◌≡◌, ℕ, ◌-◌, ◌<◌, ◌≤◌, List, [], ◌∷◌, ◌++◌, length, drop, reverse, ⊤}
use Rattle.pi_terms.specs.Tree.{Tree, var, int, atom, comp, Trees, no_trees, tree, tree_count, drop_trees, cells, subterms, ShowsHead}
use Rattle.pi_terms.specs.TermCells.{take_trees}
use Rattle.pi_terms.specs.declared.term.TermHead.{TermHead}
use Rattle.pi_constraints.specs.State.{next, SpeaksBelow}
use Rattle.pi_constraints.specs.Store.{StoreView, AreTerms, Stays}
use Rattle.pi_constraints.specs.declared.store.Ref.{Ref}

-- a node in front of the trees of those behind it: a compound takes the first of them as its arguments
abbrev pub with_node : Tree → Trees → Trees
with_node (var n) ts = tree (var n) ts
with_node (int n) ts = tree (int n) ts
with_node (atom name) ts = tree (atom name) ts
with_node (comp name us) ts = tree (comp name (take_trees (tree_count us) ts)) (drop_trees (tree_count us) ts)

-- the trees of nodes in prefix order, from the right
unfoldable pub built_from : List Tree → Trees
built_from [] = no_trees
built_from (u ∷ us) = with_node u (built_from us)

-- the terms of Refs that were put, the newest last
abbrev pub AreBuilt : {M : Type 0} → StoreView M → List Ref → Trees → Type 0
AreBuilt v built ts = AreTerms v (reverse built) ts

-- a node that is a variable is one of the first so many
abbrev pub NodeBelow : ℕ → Tree → Type 0
NodeBelow n (var m) = m < n
NodeBelow n (int m) = ⊤
NodeBelow n (atom name) = ⊤
NodeBelow n (comp name ts) = ⊤

-- how many arguments a node has
abbrev pub count_of : TermHead → ℕ
count_of (TermHead.Var n) = 0
count_of (TermHead.Int n) = 0
count_of (TermHead.Atom name) = 0
count_of (TermHead.Comp name count) = count

-- a node is put: its arguments are taken off, and what is made comes in their place
pub record PutsNode {M : Type 0} (v w : StoreView M) (head : TermHead) (old new : List Ref) (made : Ref) : Type 0 where
  pub many : length new ≡ length old - count_of head
  pub terms : (u : Tree) (ts : Trees) → ShowsHead u head → NodeBelow (next v.now.state) u → AreBuilt v old ts → AreBuilt w (new ++ made ∷ []) (with_node u ts)

-- a compound is put: its arguments are taken off, and it comes in their place
pub record PutsCompound {M : Type 0} (v w : StoreView M) (name : List ℕ) (count : ℕ) (old new : List Ref) (made : Ref) : Type 0 where
  pub many : length new ≡ length old - count
  pub terms : (ts : Trees) → AreBuilt v old ts → AreBuilt w (new ++ made ∷ []) (tree (comp name (take_trees count ts)) (drop_trees count ts))

-- the nodes of a term from a number on were put; that is said of a term of variables that were made
pub record Putting {M : Type 0} (v w : StoreView M) (t : Tree) (k : ℕ) (built : List Ref) : Type 0 where
  pub stays : Stays v w
  pub within : k ≤ cells t
  pub many : length built ≡ tree_count (built_from (drop k (subterms t)))
  pub terms : SpeaksBelow (next v.now.state) t → AreBuilt w built (built_from (drop k (subterms t)))
