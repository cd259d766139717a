-- Spans in any order. The definitions are own.
use Rattle.std.specs.Prelude.{ℕ, ◌+◌, ◌<◌, List, length, get_or, neg_ℤ, ◌≤ℤ◌}
use Rattle.pi_constraints.specs.declared.domain.TheConstants.{MAX_VALUE}
use Rattle.pi_constraints.specs.declared.domain.Span.{Span}

-- a span has a number, and none past the bounds
abbrev pub IsSpan : Span → Type 0
IsSpan s = (neg_ℤ MAX_VALUE ≤ℤ s.lo) × (s.lo ≤ℤ s.hi) × (s.hi ≤ℤ MAX_VALUE)

-- no span starts below the one before it
abbrev pub AscendByStart : List Span → Type 0
AscendByStart ss = (k : ℕ) (other : Span) → k + 1 < length ss → (get_or ss k other).lo ≤ℤ (get_or ss (k + 1) other).lo
