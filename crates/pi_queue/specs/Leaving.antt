-- What becomes of a state whose items take what a filter leaves at their places, one after the other. (Own.)
use Rattle.std.specs.Prelude.{◌≡◌, ◌⊎◌, ◌↔◌, ℕ, ◌<◌, ◌≤◌, ℤ, Bool, true, false, IsTrue, List, [], ◌∷◌, ◌++◌, length, map, Contains, Some, slice_index_or}
use Rattle.pi_terms.specs.Tree.{int}
use Rattle.pi_constraints.specs.declared.constraint.Constraint.{Constraint}
use Rattle.pi_constraints.specs.declared.constraint.Item.{Item}
use Rattle.pi_constraints.specs.declared.domain.Span.{Span}
use Rattle.pi_constraints.specs.Domain.{IsDomain, has_value, size_of}
use Rattle.pi_constraints.specs.Store.{StoreView}
use Rattle.pi_prop_spec.specs.Places.{places_of}
use Rattle.pi_prop_spec.specs.Filter.{Leaves}
use Rattle.pi_constraints.specs.State.{State, IsState, free, domain_of, with_domain, with_binding}
use Rattle.pi_settling.specs.Roots.{root_item, given}
use Rattle.pi_settling.specs.SettlingLaws.{MaySettle}
use Rattle.pi_settling.specs.Narrowed.{IsNarrowed}
use Rattle.pi_settling.specs.Run.{given_at, ComesTo, LosesValue, KeptBefore, Fails}
use Rattle.pi_prop_filters.specs.Left.{AreLeft}

-- no other values
abbrev pub IsWithin : List Span → List Span → Type 0
IsWithin e d = (i : ℤ) → IsTrue (has_value e i) → IsTrue (has_value d i)

-- an item that was followed in a state before: an integer, or a variable that has a domain or is bound to an integer now
abbrev pub IsLater : State → Item → Type 0
IsLater s (Item.Var n) = ((d : List Span) × (domain_of s n ≡ Some d)) ⊎ ((i : ℤ) × (root_item s (Item.Var n) ≡ Item.Int i))
IsLater s (Item.Int i) = Unit {0}

-- what an item takes that had these values before: it has no others now, and no more are left
pub record MayTake (s : State) (x : Item) (before left : List Span) : Type 0 where
  pub later : IsLater s x
  pub had : IsWithin (given s (root_item s x)) before
  pub no_more : IsWithin left before

-- What becomes of a state, and of the variables that lost a value, where an item takes what is left. The item is followed, and has some of these values.
pub data IsTaken (left : List Span) (s : State) (lost : List ℕ) : Item → State → List ℕ → Type 0 where
  all_stay : (x : Item) → IsWithin (given s x) left → IsTaken left s lost x s lost
  some_stay : (n : ℕ) (d e : List Span) (v : ℤ) → domain_of s n ≡ Some d → IsDomain e → 2 ≤ size_of e → ((i : ℤ) → IsTrue (has_value e i) ↔ (IsTrue (has_value d i) × IsTrue (has_value left i))) →
      IsTrue (has_value d v) → (IsTrue (has_value left v) → ⊥) → IsTaken left s lost (Item.Var n) (with_domain s n e) (lost ++ n ∷ [])
  one_stays : (n : ℕ) (d : List Span) (i v : ℤ) → domain_of s n ≡ Some d → ((j : ℤ) → (j ≡ i) ↔ (IsTrue (has_value d j) × IsTrue (has_value left j))) →
      IsTrue (has_value d v) → (IsTrue (has_value left v) → ⊥) → IsTaken left s lost (Item.Var n) (with_binding s n (int i)) (lost ++ n ∷ [])

-- a state, and the variables that lost a value on the way to it
pub record WithLost : Type 0 where
  pub state : State
  pub lost : List ℕ

abbrev pub with_lost : State → List ℕ → WithLost
with_lost s lost = record { state = s; lost = lost }

abbrev pub lost_in : {M : Type 0} → StoreView M → List ℕ → WithLost
lost_in v lost = with_lost v.now.state lost

-- the state is as it was
abbrev pub KeepsState : {M : Type 0} → StoreView M → StoreView M → Type 0
KeepsState old new = new.now.state ≡ old.now.state

-- whether an item that is followed is left a value, and what becomes of the state
abbrev pub Takes : List Span → WithLost → Item → Bool → WithLost → Type 0
Takes left old x true new = IsTaken left old.state old.lost x new.state new.lost
Takes left old x false new = (new.state ≡ old.state) × ((i : ℤ) → IsTrue (has_value (given old.state x) i) → IsTrue (has_value left i) → ⊥)

-- The first so many items of a constraint have taken what its filter leaves, and these variables lost a value by it.
pub record HasLeft (s : State) (c : Constraint) (many : ℕ) (r : State) (lost : List ℕ) : Type 0 where
  pub narrowed : IsNarrowed (KeptBefore s c many) s r
  pub integers : (k : ℕ) (i : ℤ) → k < many → ComesTo s c k (Item.Int i) → Leaves c (given_at s c) k i
  pub losing : (n : ℕ) → Contains lost n → ((d : List Span) × (domain_of s n ≡ Some d)) × LosesValue s r n
  pub others : (n : ℕ) → Contains lost n ⊎ (slice_index_or r.variables n free ≡ slice_index_or s.variables n free)

-- a state with no more values than another, that is else as it was
abbrev pub IsNarrower : State → State → Type 0
IsNarrower s r = IsNarrowed (λ n i. IsTrue (has_value (given r (root_item r (Item.Var n))) i)) s r

-- a constraint may be run, and no variable has lost a value by it yet
pub record MayNarrow (s : State) (c : Constraint) (lost : List ℕ) : Type 0 where
  pub state : IsState s
  pub settles : MaySettle s
  pub posted : Contains s.constraints c
  pub none : lost ≡ []

-- what its items come to was read, and what its filter leaves of their values
pub record MayLeave (s : State) (c : Constraint) (roots : List Item) (before left : List (List Span)) (lost : List ℕ) : Type 0 where
  pub narrows : MayNarrow s c lost
  pub are_roots : roots ≡ map (root_item s) (places_of c)
  pub are_given : before ≡ given_at s c
  pub are_left : AreLeft c before left

-- all items take what is left, or the run fails
abbrev pub LeavesAll : State → Constraint → Bool → State → List ℕ → Type 0
LeavesAll s c true r lost = HasLeft s c (length (places_of c)) r lost
LeavesAll s c false r lost = Fails s c
