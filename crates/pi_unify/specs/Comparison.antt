-- What is left to compare of two terms, as the loop of `compare` keeps it.
use Rattle.std.specs.Prelude.{◌≡◌, ℕ, ◌<◌, List, [], ◌∷◌, Option, Some, None}
use Rattle.std.specs.Ordering.{ordering_then}
use Rattle.std.specs.declared.cmp.Ordering.{Ordering}
use Rattle.std.specs.declared.cmp.Ordering.TheVariants.{Equal}
use Rattle.pi_terms.specs.Tree.{Tree, args, arity, drop_trees}
use Rattle.pi_terms.specs.Order.{order, order_all}
use Rattle.pi_constraints.specs.Store.{StoreView, ShowsCell}
use Rattle.pi_constraints.specs.declared.store.Cell.{Cell}
use Rattle.pi_unify.specs.Terms.{IsGiven, value_of}
use Rattle.pi_unify.specs.declared.ahead.Rest.{Rest}
use Rattle.pi_unify.specs.declared.ahead.RefPair.{RefPair}

abbrev pub cell_arity : Cell → ℕ
cell_arity (Cell.Var n) = 0
cell_arity (Cell.Int n) = 0
cell_arity (Cell.Atom k) = 0
cell_arity (Cell.Comp k count) = count

-- two terms that show these cells stand in this order, and where it is Equal, as their arguments do
abbrev pub Begins : {M : Type 0} → StoreView M → Cell → Cell → Ordering → Type 0
Begins v c d o = (t u : Tree) → ShowsCell v t c → ShowsCell v u d →
    (order t u ≡ ordering_then o (order_all (args t) (args u))) × (o ≡ Equal → arity t ≡ arity u)

-- the values of a pair, in order
abbrev pub pair_order : {M : Type 0} → StoreView M → RefPair → Ordering
pair_order v p = order (value_of v p.left) (value_of v p.right)

abbrev pub IsPair : {M : Type 0} → StoreView M → RefPair → Type 0
IsPair v p = IsGiven v p.left × IsGiven v p.right

-- arguments of both terms are left, of each as many
pub record IsRest {M : Type 0} (v : StoreView M) (f : Rest RefPair) : Type 0 where
  pub pair : IsPair v f.of
  pub left : arity (value_of v f.of.left) ≡ f.count
  pub right : arity (value_of v f.of.right) ≡ f.count
  pub within : f.next < f.count

unfoldable pub AreRests : {M : Type 0} → StoreView M → List (Rest RefPair) → Type 0
AreRests v [] = Unit {0}
AreRests v (f ∷ fs) = IsRest v f × AreRests v fs

abbrev pub rest_order : {M : Type 0} → StoreView M → Rest RefPair → Ordering
rest_order v f = order_all (drop_trees f.next (args (value_of v f.of.left))) (drop_trees f.next (args (value_of v f.of.right)))

-- the order of two terms, of which all but these rests compared as o
unfoldable pub order_with : {M : Type 0} → StoreView M → List (Rest RefPair) → Ordering → Ordering
order_with v [] o = o
order_with v (f ∷ fs) o = ordering_then (order_with v fs o) (rest_order v f)

-- the next pair stands before the rests that are left
pub record Takes {M : Type 0} (v : StoreView M) (old new : List (Rest RefPair)) (p : RefPair) : Type 0 where
  pub pair : IsPair v p
  pub rests : AreRests v new
  pub order : order_with v old Equal ≡ order_with v new (pair_order v p)

abbrev pub TakesPair : {M : Type 0} → StoreView M → List (Rest RefPair) → List (Rest RefPair) → Option RefPair → Type 0
TakesPair v old new None = old ≡ []
TakesPair v old new (Some p) = Takes v old new p
