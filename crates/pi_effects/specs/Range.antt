-- The numbers that an operation can give, and its faults of range.
use Rattle.std.specs.Prelude.{ℕ, zero, suc, ◌^◌, ℤ, pos, negsuc, neg_ℤ, int_le, int_lt, nat_le, Bool, ◌&&◌, if◌then◌else◌, Result, Ok, Err}
use Rattle.pi_effects.specs.declared.arith_fault.ArithFault.{ArithFault}
use Rattle.pi_effects.specs.declared.arith_fault.ArithFault.TheVariants.{Overflow, ZeroDivisor, NegativeExponent, BadShift}

-- what `evaluate` answers, over whole numbers without bounds
abbrev pub Outcome : Type 0
Outcome = Result ℤ ArithFault

-- -2^127 ≤ z < 2^127: z is a whole number of 128 bits with a sign
abbrev pub has_128_bits : ℤ → Bool
has_128_bits z = int_le (neg_ℤ (pos (2 ^ 127))) z && int_lt z (pos (2 ^ 127))

-- the value z, or Overflow where z needs more than 128 bits
abbrev pub bounded : ℤ → Outcome
bounded z = if has_128_bits z then Ok z else Err Overflow

-- the outcome for a divisor, which is ZeroDivisor where the divisor is 0
abbrev pub divided_by : ℤ → Outcome → Outcome
divided_by (pos zero) outcome = Err ZeroDivisor
divided_by (pos (suc n)) outcome = outcome
divided_by (negsuc n) outcome = outcome

-- the outcome for an exponent, which is NegativeExponent where the exponent is below 0
abbrev pub raised_to : ℤ → (ℕ → Outcome) → Outcome
raised_to (pos n) outcome = outcome n
raised_to (negsuc n) outcome = Err NegativeExponent

-- the outcome for a shift's distance, which is BadShift where the distance isn't one of 0 to 127
abbrev pub shifted_by : ℤ → (ℕ → Outcome) → Outcome
shifted_by (pos n) outcome = if nat_le n 127 then outcome n else Err BadShift
shifted_by (negsuc n) outcome = Err BadShift
