-- The quotients and what they leave, beside the quotient rounded towards zero.
use Rattle.std.proofs.Common.{◌≡◌, ◌≢◌, ℕ, zero, suc, ◌+◌, ◌-◌, ◌*◌, ◌/◌, ◌%◌, ◌<◌, cond, Bool, true, false, ℤ, pos, negsuc, ◌+ℤ◌, ◌-ℤ◌, ◌*ℤ◌, neg_ℤ, int_rem, refl, ap, ◌∙◌, arith}
use Rattle.std.proofs.lemmas.Nat.{div-add-mod', div-mul-add, mod_below}
use Rattle.std.proofs.Math.Nat.{zero-div, zero-mod}
use Rattle.std.proofs.lemmas.Int.{ints, quot-rem}
use Rattle.std.proofs.Math.IntN.{pred_ℤ-*ℤ, -ℤ_one}
use Rattle.pi_effects.specs.Quotients.{quotient, floor_quotient, ceiling_quotient, have_opposite_signs, have_one_sign}

-- one less has the same quotient, where the number isn't a multiple
div-pred_within : (m d k : ℕ) → 0 < d → suc m % d ≡ suc k → m / d ≡ suc m / d
div-pred_within m d k above e =
    let split : m ≡ suc m / d * d + k = omega (arith, div-add-mod' (suc m) d) in
    let below : k < d = omega (arith, mod_below (suc m) d above) in
    ap (λ (x : ℕ). x / d) split ∙ div-mul-add (suc m / d) d k below

-- one less than a multiple has the quotient before
div-pred_of : (m d q : ℕ) → 0 < d → suc m ≡ q * d → suc (m / d) ≡ q
div-pred_of m d zero above e = absurd (omega arith)
div-pred_of m d (suc p) above e =
    let split : m ≡ p * d + (d - 1) = omega arith in
    let below : d - 1 < d = omega arith in
    ap (λ (x : ℕ). suc (x / d)) split ∙ ap suc (div-mul-add p d (d - 1) below)

div-pred_multiple : (m d : ℕ) → 0 < d → suc m % d ≡ 0 → suc (m / d) ≡ suc m / d
div-pred_multiple m d above e = div-pred_of m d (suc m / d) above (omega (arith, div-add-mod' (suc m) d))

-- -(m + 1) by d, rounded down, where d divides it and where it doesn't
negsuc-div_multiple : (m d : ℕ) → 0 < d → suc m % d ≡ 0 → negsuc (m / d) ≡ neg_ℤ (pos (suc m / d))
negsuc-div_multiple m d above e = ap (λ (x : ℕ). neg_ℤ (pos x)) (div-pred_multiple m d above e)

negsuc-div_within : (m d k : ℕ) → 0 < d → suc m % d ≡ suc k → negsuc (m / d) ≡ neg_ℤ (pos (suc m / d)) -ℤ pos 1
negsuc-div_within m d k above e = ap negsuc (div-pred_within m d k above e) ∙ omega (arith, ints)

suc-div_within : (m d k : ℕ) → 0 < d → suc m % d ≡ suc k → pos (suc (m / d)) ≡ pos (suc m / d) +ℤ pos 1
suc-div_within m d k above e = ap (λ (x : ℕ). pos (suc x)) (div-pred_within m d k above e) ∙ omega (arith, ints)

-- ---- the signs of what a quotient leaves

pub opposite-pos_pos : (x y : ℕ) → have_opposite_signs (pos x) (pos y) ≡ false
opposite-pos_pos zero y = refl
opposite-pos_pos (suc x) y = refl

pub opposite-neg_neg : (x y : ℕ) → have_opposite_signs (neg_ℤ (pos x)) (negsuc y) ≡ false
opposite-neg_neg zero y = refl
opposite-neg_neg (suc x) y = refl

pub one_sign-pos_neg : (x y : ℕ) → have_one_sign (pos x) (negsuc y) ≡ false
one_sign-pos_neg zero y = refl
one_sign-pos_neg (suc x) y = refl

pub one_sign-neg_pos : (x y : ℕ) → have_one_sign (neg_ℤ (pos x)) (pos y) ≡ false
one_sign-neg_pos zero y = refl
one_sign-neg_pos (suc x) y = refl

-- the quotient rounded down, from the one rounded towards zero, which leaves r
floor_neg_pos : (m n r : ℕ) → suc m % suc n ≡ r → negsuc (m / suc n) ≡ cond (have_opposite_signs (neg_ℤ (pos r)) (pos (suc n))) (neg_ℤ (pos (suc m / suc n)) -ℤ pos 1) (neg_ℤ (pos (suc m / suc n)))
floor_neg_pos m n zero e = negsuc-div_multiple m (suc n) (omega arith) e
floor_neg_pos m n (suc k) e = negsuc-div_within m (suc n) k (omega arith) e

floor_pos_neg : (m n r : ℕ) → suc m % suc n ≡ r → negsuc (m / suc n) ≡ cond (have_opposite_signs (pos r) (negsuc n)) (neg_ℤ (pos (suc m / suc n)) -ℤ pos 1) (neg_ℤ (pos (suc m / suc n)))
floor_pos_neg m n zero e = negsuc-div_multiple m (suc n) (omega arith) e
floor_pos_neg m n (suc k) e = negsuc-div_within m (suc n) k (omega arith) e

pub floor_is : (a b : ℤ) → b ≢ pos 0 → floor_quotient a b ≡ cond (have_opposite_signs (int_rem a b) b) (quotient a b -ℤ pos 1) (quotient a b)
floor_is a (pos zero) other = absurd (other refl)
floor_is (pos m) (pos (suc n)) other = rw (opposite-pos_pos (m % suc n) (suc n)) refl
floor_is (negsuc m) (pos (suc n)) other = floor_neg_pos m n (suc m % suc n) refl
floor_is (pos zero) (negsuc n) other = rw (zero-mod (suc n), zero-div (suc n)) refl
floor_is (pos (suc m)) (negsuc n) other = floor_pos_neg m n (suc m % suc n) refl
floor_is (negsuc m) (negsuc n) other = rw (opposite-neg_neg (suc m % suc n) n) refl

-- the quotient rounded up, likewise
ceiling_pos_pos : (m n r : ℕ) → suc m % suc n ≡ r → pos (suc (m / suc n)) ≡ cond (have_one_sign (pos r) (pos (suc n))) (pos (suc m / suc n) +ℤ pos 1) (pos (suc m / suc n))
ceiling_pos_pos m n zero e = ap pos (div-pred_multiple m (suc n) (omega arith) e)
ceiling_pos_pos m n (suc k) e = suc-div_within m (suc n) k (omega arith) e

ceiling_neg_neg : (m n r : ℕ) → suc m % suc n ≡ r → pos (suc (m / suc n)) ≡ cond (have_one_sign (neg_ℤ (pos r)) (negsuc n)) (pos (suc m / suc n) +ℤ pos 1) (pos (suc m / suc n))
ceiling_neg_neg m n zero e = ap pos (div-pred_multiple m (suc n) (omega arith) e)
ceiling_neg_neg m n (suc k) e = suc-div_within m (suc n) k (omega arith) e

pub ceiling_is : (a b : ℤ) → b ≢ pos 0 → ceiling_quotient a b ≡ cond (have_one_sign (int_rem a b) b) (quotient a b +ℤ pos 1) (quotient a b)
ceiling_is a (pos zero) other = absurd (other refl)
ceiling_is (pos zero) (pos (suc n)) other = rw (zero-mod (suc n), zero-div (suc n)) refl
ceiling_is (pos (suc m)) (pos (suc n)) other = ceiling_pos_pos m n (suc m % suc n) refl
ceiling_is (negsuc m) (pos (suc n)) other = rw (one_sign-neg_pos (suc m % suc n) (suc n)) refl
ceiling_is (pos zero) (negsuc n) other = rw (zero-mod (suc n), zero-div (suc n)) refl
ceiling_is (pos (suc m)) (negsuc n) other = rw (one_sign-pos_neg (suc m % suc n) n) refl
ceiling_is (negsuc m) (negsuc n) other = ceiling_neg_neg m n (suc m % suc n) refl

pub remainder_is : (a b : ℤ) → a -ℤ quotient a b *ℤ b ≡ int_rem a b
remainder_is a b = omega (arith, ints, quot-rem a b)

-- one less in the quotient leaves one divisor more
minus_one : (a b q : ℤ) → a -ℤ (q -ℤ pos 1) *ℤ b ≡ (a -ℤ q *ℤ b) +ℤ b
minus_one a b q = ap (λ (x : ℤ). a -ℤ x *ℤ b) (-ℤ_one q) ∙ ap (λ (x : ℤ). a -ℤ x) (pred_ℤ-*ℤ q b) ∙ omega (arith, ints)

pub modulo_is : (a b : ℤ) → b ≢ pos 0 → a -ℤ floor_quotient a b *ℤ b ≡ cond (have_opposite_signs (int_rem a b) b) (int_rem a b +ℤ b) (int_rem a b)
modulo_is a b other = ap (λ (x : ℤ). a -ℤ x *ℤ b) (floor_is a b other) ∙ by_side (have_opposite_signs (int_rem a b) b)
  where
    by_side : (t : Bool) → a -ℤ cond t (quotient a b -ℤ pos 1) (quotient a b) *ℤ b ≡ cond t (int_rem a b +ℤ b) (int_rem a b)
    by_side true = minus_one a b (quotient a b) ∙ ap (λ (x : ℤ). x +ℤ b) (remainder_is a b)
    by_side false = remainder_is a b
