-- What is asked of the values at a place of a sum, and how great the numbers on the way are. The definitions are own.
use Rattle.std.specs.Prelude.{ℕ, ◌+◌, ◌≤◌, ◌^◌, Bool, true, ◌&&◌, Option, Some, None, List, ℤ, pos, ◌+ℤ◌, ◌-ℤ◌, int_le, nat_abs, IfSome, length, ◌<◌, ◌≢◌}
use Rattle.pi_constraints.specs.declared.domain.Span.{Span}
use Rattle.pi_prop_spec.specs.Sums.{least_with, negated, coefficient_at}

-- a number and what is added to it aren't above 0 together; where nothing is asked, each number passes
abbrev pub passes : Option ℤ → ℤ → Bool
passes None x = true
passes (Some rest) x = int_le (x +ℤ rest) (pos 0)

-- neither number is wider than the bound
abbrev pub BothAreSmall : ℕ → ℤ → ℤ → Type 0
BothAreSmall bound m n = (nat_abs m ≤ bound) × (nat_abs n ≤ bound)

-- a rest that is there is narrow enough for sums and quotients in 128 bits
abbrev pub MayBeRest : Option ℤ → Type 0
MayBeRest rest = IfSome rest (λ n. nat_abs n ≤ 2 ^ 120)

-- a constant that is there is one that a constraint can have, or one more
abbrev pub MayBeConstant : Option ℤ → Type 0
MayBeConstant constant = IfSome constant (λ n. nat_abs n ≤ 2 ^ 100 + 1)

-- coefficients that are not 0 and are narrow enough
abbrev pub AreCoefficients : List (ℤ × ℕ) → Type 0
AreCoefficients terms = (k : ℕ) → k < length terms → (coefficient_at terms k ≢ pos 0) × (nat_abs (coefficient_at terms k) ≤ 2 ^ 40)

-- a value x of a term and a constant, with what all other terms add at least (all but the term's part), aren't above 0
abbrev pub side_passes : Option ℤ → ℤ → ℤ → ℤ → Bool
side_passes None all part x = true
side_passes (Some constant) all part x = int_le (x +ℤ (constant +ℤ (all -ℤ part))) (pos 0)

-- `AtMostKeeps` as a test, where there is a constant
abbrev pub side_keeps : Option ℤ → List (ℤ × ℕ) → List (List Span) → ℕ → ℤ → Bool
side_keeps None terms ds k n = true
side_keeps (Some constant) terms ds k n = int_le (least_with terms constant ds k n) (pos 0)

-- what the sum with a constant asks, and what its negative with another one asks
abbrev pub sides_keep : Option ℤ → Option ℤ → List (ℤ × ℕ) → List (List Span) → ℕ → ℤ → Bool
sides_keep above below terms ds k n = side_keeps above terms ds k n && side_keeps below (negated terms) ds k n

-- a constant, where there is one, with what all terms but one add at least
abbrev pub rest_with : Option ℤ → ℤ → ℤ → Option ℤ
rest_with None all part = None
rest_with (Some constant) all part = Some (constant +ℤ (all -ℤ part))
