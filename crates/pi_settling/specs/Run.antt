-- A run of a constraint: its filter reads the domains of its items, and each variable is left the values that the filter leaves at all its places. Two items that come to
-- one variable are one here. (A User's Guide to Picat, 'Constraints'; the filters are own.)
use Rattle.std.specs.Prelude.{◌≡◌, ℕ, ◌<◌, ℤ, IsTrue, List, length, Some, slice_get}
use Rattle.pi_constraints.specs.declared.constraint.Constraint.{Constraint}
use Rattle.pi_constraints.specs.declared.constraint.Item.{Item}
use Rattle.pi_constraints.specs.declared.domain.Span.{Span}
use Rattle.pi_constraints.specs.Domain.{has_value}
use Rattle.pi_prop_spec.specs.Places.{places_of, domain_at}
use Rattle.pi_prop_spec.specs.Filter.{Leaves}
use Rattle.pi_constraints.specs.State.{State}
use Rattle.pi_settling.specs.Roots.{root_item, given}
use Rattle.pi_settling.specs.Stable.{at_places}
use Rattle.pi_settling.specs.Narrowed.{IsNarrowed}

-- the domains that a filter reads
abbrev pub given_at : State → Constraint → List (List Span)
given_at s c = at_places s (given s) c

-- what the item at a place comes to
abbrev pub ComesTo : State → Constraint → ℕ → Item → Type 0
ComesTo s c k x = (y : Item) × (slice_get (places_of c) k ≡ Some y) × (root_item s y ≡ x)

-- an item of the constraint with this number comes to a variable
abbrev pub HasVariable : State → ℕ → ℕ → Type 0
HasVariable s i n = (c : Constraint) × (k : ℕ) × (slice_get s.constraints i ≡ Some c) × ComesTo s c k (Item.Var n)

-- a variable lost a value between two states
abbrev pub LosesValue : State → State → ℕ → Type 0
LosesValue s r n = (i : ℤ) × IsTrue (has_value (given s (root_item s (Item.Var n))) i) × (IsTrue (has_value (given r (root_item r (Item.Var n))) i) → ⊥)

-- a variable keeps a value, as far as the first so many places go: the filter leaves it at each of them that comes to the variable
abbrev pub KeptBefore : State → Constraint → ℕ → ℕ → ℤ → Type 0
KeptBefore s c many n i = (k : ℕ) → k < many → ComesTo s c k (Item.Var n) → Leaves c (given_at s c) k i

-- as all places go
abbrev pub KeptBy : State → Constraint → ℕ → ℤ → Type 0
KeptBy s c n i = KeptBefore s c (length (places_of c)) n i

-- the second state is the first one behind a run: an integer is left at each place that comes to it, and each variable is left some value
pub record IsRun (s : State) (c : Constraint) (r : State) : Type 0 where
  pub narrowed : IsNarrowed (KeptBy s c) s r
  pub integers : (k : ℕ) (i : ℤ) → ComesTo s c k (Item.Int i) → Leaves c (given_at s c) k i

-- a run leaves nothing of an integer at its place, or of a variable
pub data IsLost (s : State) (c : Constraint) : Item → Type 0 where
  integer_lost : (k : ℕ) (i : ℤ) → ComesTo s c k (Item.Int i) → (Leaves c (given_at s c) k i → ⊥) → IsLost s c (Item.Int i)
  variable_lost : (k n : ℕ) → ComesTo s c k (Item.Var n) → ((i : ℤ) → IsTrue (has_value (given s (Item.Var n)) i) → KeptBy s c n i → ⊥) → IsLost s c (Item.Var n)

-- a run fails
abbrev pub Fails : State → Constraint → Type 0
Fails s c = (x : Item) × IsLost s c x

-- the filter of a constraint changes nothing
abbrev pub ChangesNothing : State → Constraint → Type 0
ChangesNothing s c = (k : ℕ) (i : ℤ) → k < length (places_of c) → IsTrue (has_value (domain_at (given_at s c) k) i) → Leaves c (given_at s c) k i
