-- A shift to the left and back.
use Rattle.std.proofs.Common.{◌≡◌, ℕ, zero, suc, ◌+◌, ◌-◌, ◌*◌, ◌/◌, ◌%◌, ◌^◌, ◌<◌, ◌≤◌, ℤ, pos, negsuc, ◌*ℤ◌, neg_ℤ, FitsSigned, to_z, of_z, sym, ap, ◌∙◌, subst, arith}
use Rattle.std.specs.Int.{w128, int_wrap}
use Rattle.std.proofs.lemmas.Int.{to_z-of_z, int_wrap_fits, SFits-int_wrap, int_wrap-mul_right, wrapping_mul-bits}
use Rattle.std.proofs.lemmas.Nat.{div-mul-add, div_below, pow-add, pow_below, pow_pos}
use Rattle.std.proofs.Math.Nat.{div-mul-le_self, mod-eq_of_lt, mul-le-mul_right}
use Rattle.pi_effects.proofs.BitLemmas.{of_z-lt}
use Rattle.pi_effects.proofs.WidthLemmas.{fits_rounded}
use Rattle.pi_effects.specs.Quotients.{rounded_down}

-- a multiple, divided, is exact
pub rounded_down-multiple : (a : ℤ) (d : ℕ) → 0 < d → rounded_down (a *ℤ pos d) d ≡ a
rounded_down-multiple a zero above = absurd (omega arith)
rounded_down-multiple (pos m) (suc n) above = ap pos (ap (λ (x : ℕ). x / suc n) (omega arith) ∙ div-mul-add m (suc n) 0 above)
rounded_down-multiple (negsuc m) (suc n) above =
    let split : suc m * suc n ≡ suc (m * suc n + n) = omega arith in
    ap (λ (x : ℕ). rounded_down (neg_ℤ (pos x)) (suc n)) split ∙ ap negsuc (div-mul-add m (suc n) n (omega arith))

-- ---- what `<<` leaves of a number

to_z-wrap : (n : ℕ) → n < 2 ^ 128 → to_z w128 n ≡ int_wrap w128 (pos n)
unfolding int_wrap
to_z-wrap n below = ap (to_z w128) (sym (mod-eq_of_lt below))

shl_is : (a : ℤ) (n : ℕ) → FitsSigned w128 a → n < 128 → to_z w128 (of_z w128 a * 2 ^ n % 2 ^ 128) ≡ int_wrap w128 (a *ℤ pos (2 ^ n))
shl_is a n fits within =
    let below : 2 ^ n < 2 ^ 128 = pow_below n 128 within in
    wrapping_mul-bits w128 (of_z w128 a) (2 ^ n) (of_z-lt a fits) below
    ∙ (λ i. int_wrap w128 (to_z-of_z w128 a fits i *ℤ to_z-wrap (2 ^ n) below i))
    ∙ int_wrap-mul_right w128 a (pos (2 ^ n))

fits_shl : (a : ℤ) (n : ℕ) → FitsSigned w128 a → n < 128 → FitsSigned w128 (to_z w128 (of_z w128 a * 2 ^ n % 2 ^ 128))
fits_shl a n fits within = subst (FitsSigned w128) (sym (shl_is a n fits within)) (SFits-int_wrap w128 (a *ℤ pos (2 ^ n)))

shl_whole : (a : ℤ) (n : ℕ) → FitsSigned w128 a → n < 128 → FitsSigned w128 (a *ℤ pos (2 ^ n)) → to_z w128 (of_z w128 a * 2 ^ n % 2 ^ 128) ≡ a *ℤ pos (2 ^ n)
shl_whole a n fits within whole = shl_is a n fits within ∙ int_wrap_fits w128 (a *ℤ pos (2 ^ n)) whole

-- where the way back leads to a, a's product fits
fits_back : (s : ℤ) (d e : ℕ) → FitsSigned w128 s → 0 < d → e * d ≡ 2 ^ 127 → FitsSigned w128 (rounded_down s d *ℤ pos d)
fits_back (pos m) d e fits above split = record { sfits = omega (arith, div-mul-le_self m d, fits.sfits) }
fits_back (negsuc m) d e fits above split =
    let rows : suc (m / d) ≤ e = div_below m d e above (omega (arith, fits.sfits)) in
    fits_negated (suc (m / d) * d) (omega (arith, mul-le-mul_right d rows))
  where
    fits_negated : (n : ℕ) → n ≤ 2 ^ 127 → FitsSigned w128 (neg_ℤ (pos n))
    fits_negated zero h = record { sfits = omega arith }
    fits_negated (suc n) h = record { sfits = omega arith }

pub scaled_whole : (a : ℤ) (n : ℕ) → FitsSigned w128 a → n < 128 → of_z w128 (rounded_down (to_z w128 (of_z w128 a * 2 ^ n % 2 ^ 128)) (2 ^ n)) ≡ of_z w128 a → FitsSigned w128 (a *ℤ pos (2 ^ n)) × (to_z w128 (of_z w128 a * 2 ^ n % 2 ^ 128) ≡ a *ℤ pos (2 ^ n))
scaled_whole a n fits within back =
    let s = to_z w128 (of_z w128 a * 2 ^ n % 2 ^ 128) in
    let fits_s : FitsSigned w128 s = fits_shl a n fits within in
    let same : rounded_down s (2 ^ n) ≡ a = sym (to_z-of_z w128 (rounded_down s (2 ^ n)) (fits_rounded s (2 ^ n) fits_s)) ∙ ap (to_z w128) back ∙ to_z-of_z w128 a fits in
    let exponent : 127 - n + n ≡ 127 = omega arith in
    let split : 2 ^ (127 - n) * 2 ^ n ≡ 2 ^ 127 = sym (pow-add 2 (127 - n) n) ∙ ap (λ (x : ℕ). 2 ^ x) exponent in
    let whole : FitsSigned w128 (a *ℤ pos (2 ^ n)) = subst (λ (x : ℤ). FitsSigned w128 (x *ℤ pos (2 ^ n))) same (fits_back s (2 ^ n) (2 ^ (127 - n)) fits_s (pow_pos n) split) in
    (whole, shl_whole a n fits within whole)

pub scaled_lost : (a : ℤ) (n : ℕ) → FitsSigned w128 a → n < 128 → (of_z w128 (rounded_down (to_z w128 (of_z w128 a * 2 ^ n % 2 ^ 128)) (2 ^ n)) ≡ of_z w128 a → ⊥) → FitsSigned w128 (a *ℤ pos (2 ^ n)) → ⊥
scaled_lost a n fits within lost whole =
    lost (ap (λ (x : ℤ). of_z w128 (rounded_down x (2 ^ n))) (shl_whole a n fits within whole) ∙ ap (of_z w128) (rounded_down-multiple a (2 ^ n) (pow_pos n)))
