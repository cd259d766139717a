-- The bounds within which each quotient is rounded.
use Rattle.std.proofs.Common.{◌≡◌, ◌≢◌, ℕ, zero, suc, ◌+◌, ◌*◌, ◌/◌, ◌%◌, ◌<◌, ℤ, pos, negsuc, ◌+ℤ◌, ◌-ℤ◌, ◌*ℤ◌, neg_ℤ, ◌≤ℤ◌, ◌<ℤ◌, unsigned_abs, int_rem, refl, sym, ap, ◌∙◌, subst, arith}
use Rattle.std.proofs.lemmas.Nat.{div-add-mod', mod_below}
use Rattle.std.proofs.lemmas.Int.{ints, rem_below}
use Rattle.std.proofs.Math.Nat.{zero-mod}
use Rattle.std.proofs.Math.IntN.{*ℤ-negsuc, suc_ℤ-*ℤ, +ℤ_one}
use Rattle.pi_effects.specs.Quotients.{quotient, rounded_down, floor_quotient, ceiling_quotient, IsRest, IsRoundedDown, IsRoundedUp}
use Rattle.pi_effects.proofs.ProductLemmas.{neg-*ℤ}
use Rattle.pi_effects.proofs.QuotientLemmas.{remainder_is}

-- one more in the quotient is one divisor more
plus_one : (q b : ℤ) → (q +ℤ pos 1) *ℤ b ≡ q *ℤ b +ℤ b
plus_one q b = ap (λ (x : ℤ). x *ℤ b) (+ℤ_one q) ∙ suc_ℤ-*ℤ q b

-- z lies from q * d up to one divisor more, where q is z by d rounded down
rounded_within : (z : ℤ) (n : ℕ) → ((rounded_down z (suc n) *ℤ pos (suc n)) ≤ℤ z) × (z <ℤ (rounded_down z (suc n) *ℤ pos (suc n) +ℤ pos (suc n)))
rounded_within (pos m) n =
    let split : m / suc n * suc n + m % suc n ≡ m = div-add-mod' m (suc n) in
    let below : m % suc n < suc n = mod_below m (suc n) (omega arith) in
    (omega (arith, ints), omega (arith, ints))
rounded_within (negsuc m) n =
    let split : m / suc n * suc n + m % suc n ≡ m = div-add-mod' m (suc n) in
    let below : m % suc n < suc n = mod_below m (suc n) (omega arith) in
    let next : suc (m / suc n) * suc n ≡ m / suc n * suc n + suc n = omega arith in
    (omega (arith, ints), omega (arith, ints))

pub floor_rounded : (a b : ℤ) → IsRoundedDown a b (floor_quotient a b)
floor_rounded a (pos zero) = record { at_positive = λ h. absurd h.lt; at_negative = λ h. absurd h.lt }
floor_rounded a (pos (suc n)) =
    let within = rounded_within a n in
    let q = rounded_down a (suc n) in
    record {
      at_positive = λ h. (within.0, subst (λ (x : ℤ). a <ℤ x) (sym (plus_one q (pos (suc n)))) within.1);
      at_negative = λ h. absurd (omega (arith, ints, h));
    }
floor_rounded a (negsuc n) =
    let within = rounded_within (neg_ℤ a) n in
    let q = rounded_down (neg_ℤ a) (suc n) in
    let product : q *ℤ negsuc n ≡ neg_ℤ (q *ℤ pos (suc n)) = *ℤ-negsuc q n in
    let next : (q +ℤ pos 1) *ℤ negsuc n ≡ q *ℤ negsuc n +ℤ negsuc n = plus_one q (negsuc n) in
    record {
      at_positive = λ h. absurd h.lt;
      at_negative = λ h. (omega (arith, ints, within.0, product), omega (arith, ints, within.1, product, next));
    }

-- minus the quotient of -a rounded down
negated_up : (a b q : ℤ) → IsRoundedDown (neg_ℤ a) b q → IsRoundedUp a b (neg_ℤ q)
negated_up a b q down =
    let product : neg_ℤ q *ℤ b ≡ neg_ℤ (q *ℤ b) = neg-*ℤ q b in
    let turned : neg_ℤ q -ℤ pos 1 ≡ neg_ℤ (q +ℤ pos 1) = omega (arith, ints) in
    let before : (neg_ℤ q -ℤ pos 1) *ℤ b ≡ neg_ℤ ((q +ℤ pos 1) *ℤ b) = ap (λ (x : ℤ). x *ℤ b) turned ∙ neg-*ℤ (q +ℤ pos 1) b in
    record {
      at_positive = λ h. (omega (arith, ints, product, (down.at_positive h).0), omega (arith, ints, before, (down.at_positive h).1));
      at_negative = λ h. (omega (arith, ints, product, (down.at_negative h).0), omega (arith, ints, before, (down.at_negative h).1));
    }

pub ceiling_rounded : (a b : ℤ) → IsRoundedUp a b (ceiling_quotient a b)
ceiling_rounded a b = negated_up a b (floor_quotient (neg_ℤ a) b) (floor_rounded (neg_ℤ a) b)

-- ---- what a quotient leaves

not_zero : (b : ℤ) → b ≢ pos 0 → 0 < unsigned_abs b
not_zero (pos zero) other = absurd (other refl)
not_zero (pos (suc n)) other = omega arith
not_zero (negsuc n) other = omega arith

smaller_positive : (z : ℤ) (d : ℕ) → pos 0 ≤ℤ z → z <ℤ pos d → unsigned_abs z < d
smaller_positive (pos m) d low high = omega (arith, ints)
smaller_positive (negsuc m) d low high = absurd low.le

smaller_negative : (z : ℤ) (n : ℕ) → negsuc n <ℤ z → z ≤ℤ pos 0 → unsigned_abs z < suc n
smaller_negative (pos m) n low high = omega (arith, ints)
smaller_negative (negsuc m) n low high = omega (arith, ints)

pub modulo_rest : (a b : ℤ) → b ≢ pos 0 → IsRest b b (a -ℤ floor_quotient a b *ℤ b)
modulo_rest a (pos zero) other = absurd (other refl)
modulo_rest a (pos (suc n)) other =
    let within = rounded_within a n in
    let rest = a -ℤ rounded_down a (suc n) *ℤ pos (suc n) in
    let low : pos 0 ≤ℤ rest = omega (arith, ints, within.0) in
    let high : rest <ℤ pos (suc n) = omega (arith, ints, within.1) in
    record {
      smaller = smaller_positive rest (suc n) low high;
      not_negative = λ h. low;
      not_positive = λ h. absurd (omega (arith, ints, h));
    }
modulo_rest a (negsuc n) other =
    let within = rounded_within (neg_ℤ a) n in
    let q = rounded_down (neg_ℤ a) (suc n) in
    let product : q *ℤ negsuc n ≡ neg_ℤ (q *ℤ pos (suc n)) = *ℤ-negsuc q n in
    let rest = a -ℤ q *ℤ negsuc n in
    let low : negsuc n <ℤ rest = omega (arith, ints, within.1, product) in
    let high : rest ≤ℤ pos 0 = omega (arith, ints, within.0, product) in
    record {
      smaller = smaller_negative rest n low high;
      not_negative = λ h. absurd h.le;
      not_positive = λ h. high;
    }

rem_not_negative : (a b : ℤ) → pos 0 ≤ℤ a → pos 0 ≤ℤ int_rem a b
rem_not_negative (pos m) b h = omega (arith, ints)
rem_not_negative (negsuc m) b h = absurd h.le

rem_not_positive : (a b : ℤ) → a ≤ℤ pos 0 → int_rem a b ≤ℤ pos 0
rem_not_positive (pos zero) b h = omega (arith, ints, zero-mod (unsigned_abs b))
rem_not_positive (pos (suc m)) b h = absurd (omega (arith, ints, h))
rem_not_positive (negsuc m) b h = omega (arith, ints)

pub remainder_rest : (a b : ℤ) → b ≢ pos 0 → IsRest b a (a -ℤ quotient a b *ℤ b)
remainder_rest a b other =
    subst (IsRest b a) (sym (remainder_is a b))
    (record {
      smaller = rem_below a b (not_zero b other);
      not_negative = rem_not_negative a b;
      not_positive = rem_not_positive a b;
    })
