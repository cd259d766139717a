-- Quotients of whole numbers, rounded three ways, and what they leave, for a divisor other than 0.
use Rattle.std.specs.Prelude.{Bool, true, false, ℕ, suc, ◌/◌, ℤ, pos, negsuc, ◌+ℤ◌, ◌-ℤ◌, ◌*ℤ◌, neg_ℤ, ◌≤ℤ◌, ◌<ℤ◌, ◌<◌, unsigned_abs, int_div}

-- the quotient rounded towards zero
abbrev pub quotient : ℤ → ℤ → ℤ
quotient a b = int_div a b

-- a number divided by n > 0 and rounded down: -(m + 1) is as far below -1 as m is above 0
abbrev pub rounded_down : ℤ → ℕ → ℤ
rounded_down (pos m) n = pos (m / n)
rounded_down (negsuc m) n = negsuc (m / n)

-- the quotient rounded down: a / b is -a / -b
abbrev pub floor_quotient : ℤ → ℤ → ℤ
floor_quotient a (pos n) = rounded_down a n
floor_quotient a (negsuc n) = rounded_down (neg_ℤ a) (suc n)

-- the quotient rounded up: minus the quotient of -a rounded down
abbrev pub ceiling_quotient : ℤ → ℤ → ℤ
ceiling_quotient a b = neg_ℤ (floor_quotient (neg_ℤ a) b)

-- q is the greatest whole number that isn't above a / b
pub record IsRoundedDown (a b q : ℤ) : Type 0 where
  pub at_positive : pos 0 <ℤ b → ((q *ℤ b) ≤ℤ a) × (a <ℤ ((q +ℤ pos 1) *ℤ b))
  pub at_negative : b <ℤ pos 0 → (a ≤ℤ (q *ℤ b)) × (((q +ℤ pos 1) *ℤ b) <ℤ a)

-- q is the least whole number that isn't below a / b
pub record IsRoundedUp (a b q : ℤ) : Type 0 where
  pub at_positive : pos 0 <ℤ b → (a ≤ℤ (q *ℤ b)) × (((q -ℤ pos 1) *ℤ b) <ℤ a)
  pub at_negative : b <ℤ pos 0 → ((q *ℤ b) ≤ℤ a) × (a <ℤ ((q -ℤ pos 1) *ℤ b))

-- what a quotient by b leaves: nearer to 0 than b, and of the sign of a number that is named, or 0
pub record IsRest (b sign rest : ℤ) : Type 0 where
  pub smaller : unsigned_abs rest < unsigned_abs b
  pub not_negative : pos 0 ≤ℤ sign → pos 0 ≤ℤ rest
  pub not_positive : sign ≤ℤ pos 0 → rest ≤ℤ pos 0

-- one of the numbers is above 0, and the other below
abbrev pub have_opposite_signs : ℤ → ℤ → Bool
have_opposite_signs (pos (suc m)) (negsuc n) = true
have_opposite_signs (negsuc m) (pos (suc n)) = true
have_opposite_signs _ _ = false

-- both numbers are above 0, or both below
abbrev pub have_one_sign : ℤ → ℤ → Bool
have_one_sign (pos (suc m)) (pos (suc n)) = true
have_one_sign (negsuc m) (negsuc n) = true
have_one_sign _ _ = false
