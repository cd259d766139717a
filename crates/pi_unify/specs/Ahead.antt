-- What a stack leaves to be looked at: the arguments of compounds, each from one on. The newest stands last.
use Rattle.std.specs.Prelude.{◌≡◌, ℕ, ◌+◌, ◌<◌, Bool, false, List, [], ◌∷◌, ◌++◌, ⊤}
use Rattle.std.specs.List.{list_any}
use Rattle.pi_terms.specs.Tree.{Tree, cells, Trees, no_trees, tree, arity}
use Rattle.pi_constraints.specs.Value.{Bindings, value}
use Rattle.pi_constraints.specs.State.{bindings}
use Rattle.pi_constraints.specs.Store.{StoreView}
use Rattle.pi_constraints.specs.Unify.{Pair, in_pairs, does_occur}
use Rattle.pi_constraints.specs.declared.store.Ref.{Ref}
use Rattle.pi_unify.specs.Refs.{IsRef, term_of, root_of, args_from}
use Rattle.pi_unify.specs.declared.ahead.Rest.{Rest}
use Rattle.pi_unify.specs.declared.ahead.RefPair.{RefPair}

-- Pairs of arguments

abbrev pub pairs_in : {M : Type 0} → StoreView M → Rest RefPair → List Pair
pairs_in v f = in_pairs (args_from v f.of.left f.next) (args_from v f.of.right f.next)

-- in front of others
unfoldable pub pairs_on : {M : Type 0} → StoreView M → List (Rest RefPair) → List Pair → List Pair
pairs_on v [] ps = ps
pairs_on v (f ∷ fs) ps = pairs_on v fs (pairs_in v f ++ ps)

-- two terms with as many arguments, some of which are left
pub record IsPairs {M : Type 0} (v : StoreView M) (f : Rest RefPair) : Type 0 where
  pub a : IsRef v f.of.left
  pub b : IsRef v f.of.right
  pub some : f.next < f.count
  pub of_a : arity (root_of v f.of.left) ≡ f.count
  pub of_b : arity (root_of v f.of.right) ≡ f.count

unfoldable pub ArePairs : {M : Type 0} → StoreView M → List (Rest RefPair) → Type 0
ArePairs v [] = ⊤
ArePairs v (f ∷ fs) = IsPairs v f × ArePairs v fs

-- a pair, and what the stack leaves behind it
abbrev pub pair_and : {M : Type 0} → StoreView M → Ref → Ref → List (Rest RefPair) → List Pair
pair_and v a b fs = (term_of v a, term_of v b) ∷ pairs_on v fs []

-- a pair that comes next
pub record IsNextPair {M : Type 0} (v : StoreView M) (a b : Ref) (fs : List (Rest RefPair)) : Type 0 where
  pub left : IsRef v a
  pub right : IsRef v b
  pub ahead : ArePairs v fs

-- Arguments

unfoldable pub in_list : Trees → List Tree
in_list no_trees = []
in_list (tree t ts) = t ∷ in_list ts

unfoldable pub args_on : {M : Type 0} → StoreView M → List (Rest Ref) → List Tree → List Tree
args_on v [] ts = ts
args_on v (f ∷ fs) ts = args_on v fs (in_list (args_from v f.of f.next) ++ ts)

pub record IsArgs {M : Type 0} (v : StoreView M) (f : Rest Ref) : Type 0 where
  pub of : IsRef v f.of
  pub some : f.next < f.count
  pub count : arity (root_of v f.of) ≡ f.count

unfoldable pub AreArgs : {M : Type 0} → StoreView M → List (Rest Ref) → Type 0
AreArgs v [] = ⊤
AreArgs v (f ∷ fs) = IsArgs v f × AreArgs v fs

-- a term, and what the stack leaves behind it
abbrev pub term_and : {M : Type 0} → StoreView M → Ref → List (Rest Ref) → List Tree
term_and v r fs = term_of v r ∷ args_on v fs []

-- a variable occurs in the value of one of the terms
abbrev pub some_hold : Bindings → ℕ → List Tree → Bool
some_hold b n ts = list_any (λ t. does_occur n (value b t)) ts

-- a variable doesn't occur in the value of a term
abbrev pub HoldsNot : {M : Type 0} → StoreView M → ℕ → Ref → Type 0
HoldsNot v n r = does_occur n (value (bindings v.now.state) (term_of v r)) ≡ false

-- the cells of their values
unfoldable pub cells_of_values : Bindings → List Tree → ℕ
cells_of_values b [] = 0
cells_of_values b (t ∷ ts) = cells (value b t) + cells_of_values b ts
