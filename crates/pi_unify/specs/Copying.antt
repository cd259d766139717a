-- New variables of a state, and terms that are put into a store from their last node to their first.
use Rattle.std.specs.Prelude.{◌≡◌, ℕ, zero, suc, ◌+◌, ◌-◌, ◌<◌, ◌≤◌, List, [], ◌∷◌, ◌++◌, length, map, reverse, Contains, Bool, true, false, Option, Some, None, Result, Ok, Err}
use Rattle.pi_terms.specs.Tree.{Tree, var, int, atom, comp, Trees, no_trees, tree, tree_count, args, arity, drop_trees, cells, subterms, subterms_all, most_cells}
use Rattle.pi_terms.specs.TermCells.{take_trees}
use Rattle.pi_terms.specs.Variables.{firsts, variables}
use Rattle.pi_terms.specs.Copy.{place_in, renamed, copy, new_variables}
use Rattle.pi_terms.specs.Numbers.{noted}
use Rattle.pi_constraints.specs.State.{State, with_new, next}
use Rattle.pi_constraints.specs.Store.{StoreView, IsTerm, AreTerms, Changes, Gives, Stays}
use Rattle.pi_constraints.specs.declared.store.Ref.{Ref}
use Rattle.pi_constraints.specs.declared.store.Cell.{Cell}
use Rattle.pi_constraints.specs.declared.store.ReadStop.{ReadStop}
use Rattle.pi_terms.specs.declared.term.TermHead.{TermHead}
use Rattle.pi_unify.specs.Terms.{IsGiven, HoldsNoCycle, value_of}
use Rattle.pi_unify.specs.declared.copying.Nodes.{Nodes}
use Rattle.pi_unify.specs.declared.ahead.Rest.{Rest}

-- so many more variables
unfoldable pub with_variables : ℕ → State → State
with_variables zero s = s
with_variables (suc k) s = with_new (with_variables k s)

-- a call that makes so many variables, and changes nothing else
abbrev pub Makes : {M : Type 0} → StoreView M → StoreView M → ℕ → Type 0
Makes v w k = Changes v w (with_variables k v.now.state)

-- a call that was refused: some variables may be made, and nothing else is changed
abbrev pub MakesSome : {M : Type 0} → StoreView M → StoreView M → Type 0
MakesSome v w = (k : ℕ) × Makes v w k

-- the number of the new variable in place of another, where the newest variables stand for these numbers in order
abbrev pub renumbered : State → List ℕ → ℕ → ℕ
renumbered s ns n = (next s - length ns) + place_in ns n

-- the terms of Refs that were put, the newest first
abbrev pub AreBuilt : {M : Type 0} → StoreView M → List Ref → Trees → Type 0
AreBuilt v built ts = AreTerms v (reverse built) ts

-- a term by what it is at its root, with renumbered variables and the arguments that were put last
abbrev pub with_built : (ℕ → ℕ) → Tree → Trees → Tree
with_built rename (var n) ts = var (rename n)
with_built rename (int n) ts = int n
with_built rename (atom name) ts = atom name
with_built rename (comp name us) ts = comp name (take_trees (tree_count us) ts)

-- all that a term needs was put: its variables are known, and as many terms were put as it has arguments
abbrev pub IsReady : List ℕ → List Ref → TermHead → Type 0
IsReady ns built (TermHead.Var n) = Contains ns n
IsReady ns built (TermHead.Int n) = Unit {0}
IsReady ns built (TermHead.Atom name) = Unit {0}
IsReady ns built (TermHead.Comp name count) = count ≤ length built

-- a term was put, in place of its arguments
pub record PutsNode {M : Type 0} (v w : StoreView M) (rename : ℕ → ℕ) (u : Tree) (old new : List Ref) (made : Ref) (ts : Trees) : Type 0 where
  pub term : IsTerm w made (with_built rename u ts)
  pub rest : AreBuilt w new (drop_trees (arity u) ts)

-- ---- the terms in a value, as they are listed

unfoldable pub AreGiven : {M : Type 0} → StoreView M → List Ref → Type 0
AreGiven v [] = Unit {0}
AreGiven v (r ∷ rs) = IsGiven v r × AreGiven v rs

abbrev pub values_of : {M : Type 0} → StoreView M → List Ref → List Tree
values_of v rs = map (value_of v) rs

-- Refs of all terms in a value, in prefix order, and the variables among them
pub record ListsNodes {M : Type 0} (v : StoreView M) (w : Tree) (nodes : Nodes) : Type 0 where
  pub given : AreGiven v nodes.refs.items
  pub listed : values_of v nodes.refs.items ≡ subterms w
  pub numbers : nodes.numbers ≡ variables w
  pub few : cells w ≤ most_cells

-- whether they are listed, or are too many
abbrev pub ShowsNodes : {M : Type 0} → StoreView M → Tree → Nodes → Bool → Type 0
ShowsNodes v w nodes false = most_cells < cells w
ShowsNodes v w nodes true = ListsNodes v w nodes

-- nothing is listed, and nothing left to be listed
pub record HasNone (nodes : Nodes) : Type 0 where
  pub refs : nodes.refs.items ≡ []
  pub numbers : nodes.numbers ≡ []
  pub left : nodes.left.items ≡ []

abbrev pub noted_cell : List ℕ → Cell → List ℕ
noted_cell ns (Cell.Var n) = noted ns n
noted_cell ns (Cell.Int n) = ns
noted_cell ns (Cell.Atom k) = ns
noted_cell ns (Cell.Comp k count) = ns

-- arguments of a value are left to be listed
pub record IsWalk {M : Type 0} (v : StoreView M) (f : Rest Ref) : Type 0 where
  pub given : IsGiven v f.of
  pub many : arity (value_of v f.of) ≡ f.count
  pub within : f.next < f.count

unfoldable pub AreWalks : {M : Type 0} → StoreView M → List (Rest Ref) → Type 0
AreWalks v [] = Unit {0}
AreWalks v (f ∷ fs) = IsWalk v f × AreWalks v fs

-- the terms that are left to be listed
unfoldable pub left_terms : {M : Type 0} → StoreView M → List (Rest Ref) → List Tree
left_terms v [] = []
left_terms v (f ∷ fs) = left_terms v fs ++ subterms_all (drop_trees f.next (args (value_of v f.of)))

-- the next term stands before what is left
pub record Enters {M : Type 0} (v : StoreView M) (old new : List (Rest Ref)) (q : Ref) : Type 0 where
  pub given : IsGiven v q
  pub walks : AreWalks v new
  pub terms : left_terms v old ≡ subterms (value_of v q) ++ left_terms v new

abbrev pub EntersNext : {M : Type 0} → StoreView M → List (Rest Ref) → List (Rest Ref) → Option Ref → Type 0
EntersNext v old new None = old ≡ []
EntersNext v old new (Some q) = Enters v old new q

-- ---- the loop that lists them

-- the variables that stand at roots
abbrev pub root_variables : List Tree → List ℕ
root_variables [] = []
root_variables (var n ∷ us) = n ∷ root_variables us
root_variables (int n ∷ us) = root_variables us
root_variables (atom name ∷ us) = root_variables us
root_variables (comp name ts ∷ us) = root_variables us

-- of all terms in a value some are listed, one comes next, and the others are left
pub record Listing {M : Type 0} (v : StoreView M) (refs : List Ref) (ns : List ℕ) (fs : List (Rest Ref)) (at whole : Ref) : Type 0 where
  pub given : AreGiven v refs
  pub at_given : IsGiven v at
  pub walks : AreWalks v fs
  pub listed : values_of v refs ++ (subterms (value_of v at) ++ left_terms v fs) ≡ subterms (value_of v whole)
  pub numbers : ns ≡ firsts (root_variables (values_of v refs))

-- all are listed, one for each cell
pub record ListsAll {M : Type 0} (v : StoreView M) (refs : List Ref) (ns : List ℕ) (whole : Ref) : Type 0 where
  pub given : AreGiven v refs
  pub listed : values_of v refs ≡ subterms (value_of v whole)
  pub numbers : ns ≡ variables (value_of v whole)
  pub many : length refs ≡ cells (value_of v whole)

abbrev pub GoesOnListing : {M : Type 0} → StoreView M → List Ref → List ℕ → List (Rest Ref) → Ref → Option Ref → Type 0
GoesOnListing v refs ns fs whole None = ListsAll v refs ns whole
GoesOnListing v refs ns fs whole (Some next) = Listing v refs ns fs next whole

-- ---- copies of listed terms, from the last to the first

-- each node stands in front of the trees of the nodes behind it
unfoldable pub forest : List Tree → Trees
forest [] = no_trees
forest (u ∷ us) = tree u (drop_trees (arity u) (forest us))

-- of which the first are its arguments
unfoldable pub Nested : List Tree → Type 0
Nested [] = Unit {0}
Nested (u ∷ us) = (take_trees (arity u) (forest us) ≡ args u) × Nested us

-- all that the copy of a value needs was put
pub record IsReadyFor (ns : List ℕ) (built : List Ref) (u : Tree) : Type 0 where
  pub known : (n : ℕ) → u ≡ var n → noted ns n ≡ ns
  pub enough : arity u ≤ length built

-- all terms in a value are listed, with the variables among them, in a state where as many new ones stand for these
pub record AreListed {M : Type 0} (v : StoreView M) (ns : List ℕ) (refs : List Ref) : Type 0 where
  pub acyclic : HoldsNoCycle v
  pub given : AreGiven v refs
  pub nested : Nested (values_of v refs)
  pub known : ns ≡ firsts (root_variables (values_of v refs))
  pub made : length ns ≤ next v.now.state

-- a term that was given can be copied, where all that its copy needs was put
pub record MayCopy {M : Type 0} (v : StoreView M) (ns : List ℕ) (built : List Ref) (node : Ref) : Type 0 where
  pub acyclic : HoldsNoCycle v
  pub given : IsGiven v node
  pub ready : IsReadyFor ns built (value_of v node)
  pub made : length ns ≤ next v.now.state

-- a copy was put in place of its arguments
pub record PutsCopy {M : Type 0} (w : StoreView M) (rename : ℕ → ℕ) (u : Tree) (new : List Ref) (made : Ref) (ts : Trees) : Type 0 where
  pub term : IsTerm w made (renamed rename u)
  pub rest : AreBuilt w new (drop_trees (arity u) ts)

-- a copy that was made, or refused for its size or for want of memory
abbrev pub ShowsCopy : {M : Type 0} → StoreView M → StoreView M → Tree → Result Ref ReadStop → Type 0
ShowsCopy v w u (Ok made) = Gives v w (with_variables (new_variables u) v.now.state) made (copy (next v.now.state) u) × (cells u ≤ most_cells)
ShowsCopy v w u (Err ReadStop.TooLarge) = Stays v w × (most_cells < cells u)
ShowsCopy v w u (Err ReadStop.Memory) = MakesSome v w
