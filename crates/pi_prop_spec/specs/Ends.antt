-- The ends of a domain: its least and its greatest value. The definitions are own.
use Rattle.std.specs.Prelude.{◌≡◌, List, [], ◌∷◌, ℤ, pos, ◌≤ℤ◌}
use Rattle.pi_constraints.specs.declared.domain.Span.{Span}

-- the least value; a domain without a value has none, and what is told of it counts for nothing
abbrev pub least_of : List Span → ℤ
least_of [] = pos 0
least_of (s ∷ ss) = s.lo

-- the greatest value; likewise
unfoldable pub greatest_of : List Span → ℤ
greatest_of [] = pos 0
greatest_of (s ∷ []) = s.hi
greatest_of (s ∷ t ∷ ss) = greatest_of (t ∷ ss)

-- n lies between the ends
abbrev pub IsBetween : List Span → ℤ → Type 0
IsBetween d n = (least_of d ≤ℤ n) × (n ≤ℤ greatest_of d)

-- a domain with values has one value alone
abbrev pub IsFixed : List Span → Type 0
IsFixed d = least_of d ≡ greatest_of d

-- a domain with values has this value alone
abbrev pub IsFixedTo : List Span → ℤ → Type 0
IsFixedTo d n = (least_of d ≡ n) × (greatest_of d ≡ n)
