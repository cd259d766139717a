-- What goes of domains because of full intervals. The definitions are own.
use Rattle.std.specs.Prelude.{◌≡◌, ℕ, ◌<◌, Bool, true, false, List, length, get_or, ℤ, pos}
use Rattle.pi_constraints.specs.declared.domain.Span.{Span}
use Rattle.pi_prop_places.specs.Changes.{AreFiltered}
use Rattle.pi_prop_filters.specs.Intervals.{IsOverfull, HasRoom, IsOutsideFull}

-- the ends of a place
abbrev pub ends_at : List (ℤ × ℤ) → ℕ → ℤ × ℤ
ends_at ends k = get_or ends k (pos 0, pos 0)

-- the least value of a place
abbrev pub least_at : List (ℤ × ℤ) → ℕ → ℤ
least_at ends k = (ends_at ends k).1

-- of the intervals that begin with a: the full ones were taken from the places that don't lie within them; or one has more places than numbers
abbrev pub AreTakenFrom : Bool → ℤ → List (ℤ × ℤ) → List (ℤ × ℤ) → List (List Span) → List (List Span) → Type 0
AreTakenFrom true a ends sorted old new = HasRoom a sorted × AreFiltered (λ k. IsOutsideFull a sorted (ends_at ends k)) old new
AreTakenFrom false a ends sorted old new = IsOverfull a sorted × (length new ≡ length old)

-- the same of all intervals that begin with the least value of a place
abbrev pub AreTaken : Bool → List (ℤ × ℤ) → List (ℤ × ℤ) → List (List Span) → List (List Span) → Type 0
AreTaken true ends sorted old new = ((i : ℕ) → i < length sorted → HasRoom (least_at sorted i) sorted) × AreFiltered (λ k n. (i : ℕ) → i < length sorted → IsOutsideFull (least_at sorted i) sorted (ends_at ends k) n) old new
AreTaken false ends sorted old new = ((i : ℕ) × (i < length sorted) × IsOverfull (least_at sorted i) sorted) × (length new ≡ length old)
