-- What the parts of the filter of `element` find and leave: the index at place 0, item i at place i, and the value behind so many items. The definitions are own.
use Rattle.std.specs.Prelude.{◌≡◌, ◌↔◌, ◌||◌, All, ℕ, suc, ◌<◌, ◌≤◌, IsTrue, List, ℤ, pos, ◌≤ℤ◌}
use Rattle.pi_constraints.specs.declared.domain.Span.{Span}
use Rattle.pi_constraints.specs.Domain.{has_value}
use Rattle.pi_prop_spec.specs.Ends.{IsFixedTo}
use Rattle.pi_prop_spec.specs.Places.{domain_at}
use Rattle.pi_prop_spec.specs.Rules.{ShareAValue}
use Rattle.pi_prop_filters.specs.Spans.{IsSpan}

-- the index has the number of the item, and the item shares a value with the value's place
abbrev pub IsChosen : ℕ → List (List Span) → ℕ → Type 0
IsChosen count ds i = IsTrue (has_value (domain_at ds 0) (pos i)) × ShareAValue (domain_at ds i) (domain_at ds (suc count))

-- the spans have the numbers below `stop`, from 1 on, of the items that are chosen
pub record AreNumbers (count stop : ℕ) (ds : List (List Span)) (made : List Span) : Type 0 where
  pub spans : All IsSpan made
  pub numbers : (n : ℤ) → IsTrue (has_value made n) ↔ ((i : ℕ) × (1 ≤ i) × (i < stop) × (n ≡ pos i) × IsChosen count ds i)

-- n is a value of an item whose number is one of the index, and below `stop`
abbrev pub IsOfAnItem : ℕ → List (List Span) → ℤ → Type 0
IsOfAnItem stop ds n = (i : ℕ) × (1 ≤ i) × (i < stop) × IsTrue (has_value (domain_at ds 0) (pos i)) × IsTrue (has_value (domain_at ds i) n)

-- of the values of the value's place, the spans have those that are of an item
pub record AreValues (count stop : ℕ) (ds : List (List Span)) (made : List Span) : Type 0 where
  pub spans : All IsSpan made
  pub values : (n : ℤ) → IsTrue (has_value (domain_at ds (suc count)) n) → IsTrue (has_value made n) ↔ IsOfAnItem stop ds n

-- of the numbers from lo to hi, the spans got those of a domain
pub record Adds (lo hi : ℤ) (d old new : List Span) : Type 0 where
  pub spans : All IsSpan old → All IsSpan new
  pub values : (n : ℤ) → lo ≤ℤ n → n ≤ℤ hi → has_value new n ≡ (has_value old n || has_value d n)

-- where the index is fixed to the number of the item at place k, that item keeps what the value's place has
abbrev pub ItemKeeps : ℕ → List (List Span) → ℕ → ℤ → Type 0
ItemKeeps count ds k n = 1 ≤ k → k ≤ count → IsFixedTo (domain_at ds 0) (pos k) → IsTrue (has_value (domain_at ds (suc count)) n)
