-- The laws of filters.
use Rattle.std.specs.Prelude.{◌≡◌, ◌↔◌, ℕ, ◌<◌, IsTrue, List, length, ℤ}
use Rattle.pi_constraints.specs.declared.constraint.Item.{Item}
use Rattle.pi_constraints.specs.declared.constraint.Constraint.{Constraint}
use Rattle.pi_constraints.specs.declared.domain.Span.{Span}
use Rattle.pi_constraints.specs.Domain.{IsDomain, has_value}
use Rattle.pi_constraints.specs.Constraint.{IsWithinLimits}
use Rattle.pi_prop_spec.specs.Ends.{IsFixedTo}
use Rattle.pi_prop_spec.specs.Places.{places_of, domain_at}
use Rattle.pi_prop_spec.specs.Filter.{Leaves}
use Rattle.pi_prop_spec.specs.Solutions.{Holds, value_at}

-- there is a domain for each place
pub record AreDomainsOf (c : Constraint) (ds : List (List Span)) : Type 0 where
  pub count : length ds ≡ length (places_of c)
  pub domains : (k : ℕ) → k < length ds → IsDomain (domain_at ds k)

-- each domain of the second list has values of the one at its place in the first alone
abbrev pub AreWithin : List (List Span) → List (List Span) → Type 0
AreWithin ds es = (k : ℕ) (n : ℤ) → k < length ds → IsTrue (has_value (domain_at es k) n) → IsTrue (has_value (domain_at ds k) n)

-- each domain has the value of its place
abbrev pub HaveValuesOf : Constraint → (ℕ → ℤ) → List (List Span) → Type 0
HaveValuesOf c a ds = (k : ℕ) → k < length (places_of c) → IsTrue (has_value (domain_at ds k) (value_at a c k))

-- each domain has the value of its place alone
abbrev pub AreFixedBy : Constraint → (ℕ → ℤ) → List (List Span) → Type 0
AreFixedBy c a ds = (k : ℕ) → k < length (places_of c) → IsFixedTo (domain_at ds k) (value_at a c k)

-- a filter is monotone: of fewer values it leaves fewer
abbrev pub FiltersAreMonotone : Type 0
FiltersAreMonotone = (c : Constraint) (ds es : List (List Span)) → AreDomainsOf c ds → AreDomainsOf c es → AreWithin ds es → (k : ℕ) (n : ℤ) → k < length (places_of c) → Leaves c es k n → Leaves c ds k n

-- no solution is lost
abbrev pub FiltersKeepSolutions : Type 0
FiltersKeepSolutions = (c : Constraint) (ds : List (List Span)) (a : ℕ → ℤ) → AreDomainsOf c ds → HaveValuesOf c a ds → Holds c a → (k : ℕ) → k < length (places_of c) → Leaves c ds k (value_at a c k)

-- a filter is decisive: where all places are fixed it empties a domain just where the constraint doesn't hold
abbrev pub FiltersAreDecisive : Type 0
FiltersAreDecisive = (c : Constraint) (ds : List (List Span)) (a : ℕ → ℤ) → IsWithinLimits c → AreDomainsOf c ds → HaveValuesOf c a ds → AreFixedBy c a ds →
    ((k : ℕ) × (k < length (places_of c)) × ((n : ℤ) → Leaves c ds k n → ⊥)) ↔ (Holds c a → ⊥)

-- `Distinct` and `Different` say the same of values
abbrev pub DistinctSaysDifferent : Type 0
DistinctSaysDifferent = (items : List Item) (a : ℕ → ℤ) → Holds (Constraint.Distinct items) a ↔ Holds (Constraint.Different items) a

-- and what the first leaves the second leaves too
abbrev pub DistinctLeavesNoMore : Type 0
DistinctLeavesNoMore = (items : List Item) (ds : List (List Span)) (k : ℕ) (n : ℤ) → Leaves (Constraint.Distinct items) ds k n → Leaves (Constraint.Different items) ds k n
