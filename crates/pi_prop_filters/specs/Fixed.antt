-- The places that have one value alone, as values with the numbers of their places. The definitions are own.
use Rattle.std.specs.Prelude.{◌↔◌, ℕ, ◌<◌, ◌≤◌, List, Contains, length, get_or, ℤ, ◌≤ℤ◌}
use Rattle.pi_constraints.specs.declared.domain.Span.{Span}
use Rattle.pi_prop_spec.specs.Ends.{IsFixedTo}
use Rattle.pi_prop_spec.specs.Places.{domain_at}

-- a value stands there with a place just where that place, one of the first so many, is fixed to it
abbrev pub AreFixedPlaces : List (List Span) → ℕ → List (ℤ × ℕ) → Type 0
AreFixedPlaces ds many fixed = (n : ℤ) (j : ℕ) → Contains fixed (n, j) ↔ ((j < many) × IsFixedTo (domain_at ds j) n)

-- a later value isn't less
abbrev pub AscendByValue : List (ℤ × ℕ) → Type 0
AscendByValue fixed = (i j : ℕ) (other : ℤ × ℕ) → i ≤ j → j < length fixed → (get_or fixed i other).0 ≤ℤ (get_or fixed j other).0
