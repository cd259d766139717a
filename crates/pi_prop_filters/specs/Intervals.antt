-- The ends of places, the intervals within which they lie, and those that are full. The definitions are own.
use Rattle.std.specs.Prelude.{◌≡◌, ◌↔◌, ℕ, ◌≤◌, ◌<◌, Bool, ◌&&◌, cond, List, map, All, Contains, length, get_or, ℤ, pos, ◌≤ℤ◌, ◌<ℤ◌, int_le, false}
use Rattle.std.specs.List.{sum_by}
use Rattle.pi_constraints.specs.declared.domain.Span.{Span}
use Rattle.pi_constraints.specs.Domain.{IsWithinBounds}
use Rattle.pi_prop_spec.specs.Ends.{least_of, greatest_of}
use Rattle.pi_prop_spec.specs.Rules.{width}

-- the greatest and the least value of each place
abbrev pub ends_of : List (List Span) → List (ℤ × ℤ)
ends_of ds = map (λ d. (greatest_of d, least_of d)) ds

-- ends as a domain has them
pub record IsEnds (e : ℤ × ℤ) : Type 0 where
  pub greatest : IsWithinBounds e.0
  pub least : IsWithinBounds e.1
  pub ordered : e.1 ≤ℤ e.0

-- a later greatest value isn't less
abbrev pub ByGreatest : List (ℤ × ℤ) → Type 0
ByGreatest ends = (i j : ℕ) (other : ℤ × ℤ) → i ≤ j → j < length ends → (get_or ends i other).0 ≤ℤ (get_or ends j other).0

-- a later number isn't less
abbrev pub IsAscending : List ℤ → Type 0
IsAscending ns = (i j : ℕ) (other : ℤ) → i ≤ j → j < length ns → get_or ns i other ≤ℤ get_or ns j other

-- a place lies within an interval
abbrev pub is_inside : ℤ → ℤ → (ℤ × ℤ) → Bool
is_inside a b e = int_le a e.1 && int_le e.0 b

-- how many places do
abbrev pub count_inside : ℤ → ℤ → List (ℤ × ℤ) → ℕ
count_inside a b ends = sum_by (λ e. cond (is_inside a b e) 1 0) ends

-- more places lie within an interval from a on than it has numbers
abbrev pub IsOverfull : ℤ → List (ℤ × ℤ) → Type 0
IsOverfull a ends = (b : ℤ) × (a ≤ℤ b) × (width a b <ℤ pos (count_inside a b ends))

-- no interval from a on has more places than numbers
abbrev pub HasRoom : ℤ → List (ℤ × ℤ) → Type 0
HasRoom a ends = (b : ℤ) → a ≤ℤ b → pos (count_inside a b ends) ≤ℤ width a b

-- it has as many
abbrev pub IsFull : ℤ → ℤ → List (ℤ × ℤ) → Type 0
IsFull a b ends = (a ≤ℤ b) × (pos (count_inside a b ends) ≡ width a b)

-- no interval from a on has more places than numbers, and these are the ends of those that have as many
pub record AreFullEnds (a : ℤ) (ends : List (ℤ × ℤ)) (full : List ℤ) : Type 0 where
  pub room : HasRoom a ends
  pub are : (b : ℤ) → Contains full b ↔ IsFull a b ends
  pub bounds : All IsWithinBounds full
  pub ascend : IsAscending full

-- n lies in no interval from a to one of these numbers within which the place doesn't lie
abbrev pub IsOutside : ℤ → List ℤ → (ℤ × ℤ) → ℤ → Type 0
IsOutside a full e n = (b : ℤ) → Contains full b → is_inside a b e ≡ false → (a ≤ℤ n) × (n ≤ℤ b) → ⊥

-- n lies in no full interval from a on within which the place doesn't lie
abbrev pub IsOutsideFull : ℤ → List (ℤ × ℤ) → (ℤ × ℤ) → ℤ → Type 0
IsOutsideFull a ends e n = (b : ℤ) → IsFull a b ends → is_inside a b e ≡ false → (a ≤ℤ n) × (n ≤ℤ b) → ⊥
