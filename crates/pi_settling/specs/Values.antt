-- Domains by their values: the values past the bounds are passed over. (Own.)
use Rattle.std.specs.Prelude.{ℕ, zero, suc, Bool, ◌&&◌, cond, List, [], ◌∷◌, ◌++◌, ℤ, pos, ◌+ℤ◌, ◌-ℤ◌, neg_ℤ, int_le, int_lt}
use Rattle.std.specs.Int.{int_max}
use Rattle.pi_constraints.specs.declared.domain.Span.{Span}
use Rattle.pi_constraints.specs.declared.domain.TheConstants.{MAX_VALUE}

-- a number that a domain can have
abbrev pub can_have : ℤ → Bool
can_have i = int_le (neg_ℤ MAX_VALUE) i && int_le i MAX_VALUE

-- from one number to another; nothing where the first is above the second
abbrev pub between : ℤ → ℤ → List Span
between lo hi = cond (int_le lo hi) (record { lo = lo; hi = hi } ∷ []) []

-- a span in front of those that begin where it ends or behind that, or right behind it: what touches it is one with it
unfoldable pub ahead_of : Span → List Span → List Span
ahead_of s [] = s ∷ []
ahead_of s (t ∷ ts) = cond (int_lt (s.hi +ℤ pos 1) t.lo) (s ∷ t ∷ ts) (ahead_of (record { lo = s.lo; hi = int_max s.hi t.hi }) ts)

-- one more value
unfoldable pub with_value : ℤ → List Span → List Span
with_value i [] = record { lo = i; hi = i } ∷ []
with_value i (s ∷ ss) =
    cond (int_lt i s.lo) (ahead_of (record { lo = i; hi = i }) (s ∷ ss))
    (cond (int_le i (s.hi +ℤ pos 1)) (ahead_of (record { lo = s.lo; hi = int_max s.hi i }) ss)
    (s ∷ with_value i ss))

-- these values, as far as a domain can have them
unfoldable pub domain_of_values : List ℤ → List Span
domain_of_values [] = []
domain_of_values (i ∷ is) = cond (can_have i) (with_value i (domain_of_values is)) (domain_of_values is)

-- what lies in front of each span from a number on, and behind the last
unfoldable pub gaps_from : ℤ → List Span → List Span
gaps_from least [] = between least MAX_VALUE
gaps_from least (s ∷ ss) = between least (s.lo -ℤ pos 1) ++ gaps_from (s.hi +ℤ pos 1) ss

-- all values that a domain can have, without those of this one
abbrev pub all_but : List Span → List Span
all_but d = gaps_from (neg_ℤ MAX_VALUE) d

-- so many numbers from one on, by a step
unfoldable pub numbers_by : ℕ → ℤ → ℤ → List ℤ
numbers_by zero low step = []
numbers_by (suc k) low step = low ∷ numbers_by k (low +ℤ step) step
