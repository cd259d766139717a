-- The values of a domain beside a number, and its ends.
use Rattle.std.specs.Prelude.{◌≡◌, ◌≢◌, ℤ, ◌≤ℤ◌, ◌<ℤ◌, IsTrue, List, [], Option, Some, None}
use Rattle.pi_constraints.specs.declared.domain.Span.{Span}
use Rattle.pi_constraints.specs.Domain.{IsWithinBounds, has_value}
use Rattle.pi_prop_spec.specs.Ends.{least_of, greatest_of}

-- the least value above n, or none
abbrev pub IsNextAbove : List Span → ℤ → Option ℤ → Type 0
IsNextAbove d n None = (m : ℤ) → IsTrue (has_value d m) → m ≤ℤ n
IsNextAbove d n (Some v) = IsTrue (has_value d v) × (n <ℤ v) × ((m : ℤ) → IsTrue (has_value d m) → n <ℤ m → v ≤ℤ m)

-- the greatest value below n, or none
abbrev pub IsNextBelow : List Span → ℤ → Option ℤ → Type 0
IsNextBelow d n None = (m : ℤ) → IsTrue (has_value d m) → n ≤ℤ m
IsNextBelow d n (Some v) = IsTrue (has_value d v) × (v <ℤ n) × ((m : ℤ) → IsTrue (has_value d m) → m <ℤ n → m ≤ℤ v)

-- a domain with values, from its least to its greatest
pub record AreEnds (d : List Span) (ends : Span) : Type 0 where
  pub some : d ≢ []
  pub least : ends.lo ≡ least_of d
  pub greatest : ends.hi ≡ greatest_of d
  pub low : IsWithinBounds ends.lo
  pub high : IsWithinBounds ends.hi

abbrev pub ShowsEnds : List Span → Option Span → Type 0
ShowsEnds d None = d ≡ []
ShowsEnds d (Some ends) = AreEnds d ends
