-- Values that a domain lost, and the events that tell them. The definitions are own.
use Rattle.std.specs.Prelude.{◌≡◌, ℕ, ℤ, ◌≤ℤ◌, false, true, not, ◌&&◌, int_lt, List, map, filter, Option, Some, None}
use Rattle.pi_constraints.specs.declared.domain.Span.{Span}
use Rattle.pi_constraints.specs.Domain.{IsWithinBounds, has_value, numbers_from}
use Rattle.pi_constraints.specs.declared.event.Event.{Event}

-- the events of values that were lost, where inner ones lie strictly between these ends
abbrev pub excluded : ℕ → Span → List ℤ → List Event
excluded v ends lost = map (λ i. Event.Excluded v i (int_lt ends.lo i && int_lt i ends.hi)) lost

-- of so many numbers from n on, those that aren't values of a domain
unfoldable pub lost_from : List Span → ℤ → ℕ → List ℤ
lost_from e n count = filter (λ i. not (has_value e i)) (numbers_from n count)

-- the numbers from n to an end are values; where there is none n isn't one
abbrev pub ShowsEnd : List Span → ℤ → Option ℤ → Type 0
ShowsEnd d n None = has_value d n ≡ false
ShowsEnd d n (Some end) = (n ≤ℤ end) × IsWithinBounds end × ((m : ℤ) → n ≤ℤ m → m ≤ℤ end → has_value d m ≡ true)
