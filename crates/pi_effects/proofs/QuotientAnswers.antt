-- What the code of the quotients answers, from what it calls. An argument x that was passed on stands there as the number of its 128 bits.
use Rattle.std.proofs.Common.{◌≡◌, ◌≢◌, ℕ, zero, suc, ◌/◌, ◌%◌, ◌^◌, ◌<◌, cond, Bool, true, false, ℤ, pos, negsuc, ◌+ℤ◌, ◌-ℤ◌, ◌*ℤ◌, neg_ℤ, int_rem, FitsSigned, to_z, of_z, Ok, refl, sym, ap, subst, ◌∙◌, arith}
use Rattle.std.specs.Int.{w128}
use Rattle.std.proofs.lemmas.Int.{ints, to_z-of_z, rem_is}
use Rattle.std.proofs.lemmas.Bool.{false≢true}
use Rattle.std.proofs.lemmas.Nat.{mod_below}
use Rattle.std.proofs.Math.Nat.{div-le_self, div-mul-le_self, zero-div}
use Rattle.std.specs.Int.Signed.{mag_rem}
use Rattle.pi_effects.specs.Quotients.{quotient, floor_quotient, ceiling_quotient, have_opposite_signs, have_one_sign}
use Rattle.pi_effects.specs.Range.{Outcome, bounded, divided_by}
use Rattle.pi_effects.proofs.QuotientLemmas.{floor_is, ceiling_is, remainder_is, modulo_is, opposite-pos_pos, opposite-neg_neg, one_sign-pos_neg, one_sign-neg_pos}
use Rattle.pi_effects.proofs.WidthLemmas.{bounded_of_fits, fits_from_bounded, fits_rounded, divided_by_other, other_from_divided}

-- what a call ensures of arguments as it was passed them
pub at_arguments : (value : ℤ → ℤ → Outcome) (a b : ℤ) (outcome : Outcome) → FitsSigned w128 a → FitsSigned w128 b → outcome ≡ value (to_z w128 (of_z w128 a)) (to_z w128 (of_z w128 b)) → outcome ≡ value a b
at_arguments value a b outcome fits_a fits_b e = e ∙ (λ i. value (to_z-of_z w128 a fits_a i) (to_z-of_z w128 b fits_b i))

pub not_zero : (b : ℤ) → (of_z w128 b ≡ 0 → ⊥) → b ≢ pos 0
not_zero b other e = other (ap (of_z w128) e)

pub remainder_answered : (a b r : ℤ) → FitsSigned w128 a → FitsSigned w128 b → FitsSigned w128 r → (of_z w128 b ≡ 0 → ⊥) → r ≡ int_rem (to_z w128 (of_z w128 a)) (to_z w128 (of_z w128 b)) → Ok (to_z w128 (of_z w128 r)) ≡ divided_by b (Ok (a -ℤ quotient a b *ℤ b))
remainder_answered a b r fits_a fits_b fits_r other e =
    let simple : r ≡ int_rem a b = simp to_z-of_z at e in
    ap Ok (to_z-of_z w128 r fits_r ∙ simple ∙ sym (remainder_is a b)) ∙ sym (divided_by_other b _ (not_zero b other))

-- a quotient that fits, for a divisor other than 0
answer_from : (b x z : ℤ) → b ≢ pos 0 → FitsSigned w128 z → x ≡ z → Ok (to_z w128 (of_z w128 x)) ≡ divided_by b (bounded z)
answer_from b x z other fits e =
    ap Ok (ap (λ (y : ℤ). to_z w128 (of_z w128 y)) e ∙ to_z-of_z w128 z fits) ∙ sym (divided_by_other b (bounded z) other ∙ bounded_of_fits z fits)

-- what the code's tests of the rest say of the rest
side_of : (test : ℤ → ℤ → Bool) (a b : ℤ) (t : Bool) → FitsSigned w128 a → FitsSigned w128 b → t ≡ test (to_z w128 (of_z w128 (int_rem (to_z w128 (of_z w128 a)) (to_z w128 (of_z w128 b))))) (to_z w128 (of_z w128 b)) → test (int_rem a b) b ≡ t
side_of test a b t fits_a fits_b e = sym (e ∙ (λ i. test (rem_is w128 a b fits_a fits_b i) (to_z-of_z w128 b fits_b i)))

fits_floor : (a b : ℤ) → FitsSigned w128 a → have_opposite_signs (int_rem a b) b ≡ true → FitsSigned w128 (floor_quotient a b)
fits_floor a (pos n) fits side = fits_rounded a n fits
fits_floor (pos zero) (negsuc n) fits side = fits_rounded (pos zero) (suc n) fits
fits_floor (pos (suc m)) (negsuc n) fits side = fits_rounded (negsuc m) (suc n) (record { sfits = omega (arith, fits.sfits) })
fits_floor (negsuc m) (negsuc n) fits side = absurd (false≢true (sym (opposite-neg_neg (suc m % suc n) n) ∙ side))

fits_like : (m n r : ℕ) → suc m % suc n ≡ r → m < 2 ^ 127 → have_one_sign (neg_ℤ (pos r)) (negsuc n) ≡ true → FitsSigned w128 (pos (suc (m / suc n)))
fits_like m n zero e below side = absurd (false≢true side)
fits_like m zero (suc k) e below side = absurd (omega (arith, mod_below (suc m) 1 (omega arith)))
fits_like m (suc n) (suc k) e below side = record { sfits = omega (arith, div-mul-le_self m (suc (suc n))) }

fits_ceiling : (a b : ℤ) → FitsSigned w128 a → have_one_sign (int_rem a b) b ≡ true → FitsSigned w128 (ceiling_quotient a b)
fits_ceiling (pos zero) (pos n) fits side = rw (zero-div n) (record { sfits = omega arith })
fits_ceiling (pos (suc m)) (pos n) fits side = record { sfits = omega (arith, div-le_self m n, fits.sfits) }
fits_ceiling (negsuc m) (pos n) fits side = absurd (false≢true (sym (one_sign-neg_pos (suc m % n) n) ∙ side))
fits_ceiling (pos m) (negsuc n) fits side = absurd (false≢true (sym (one_sign-pos_neg (m % suc n) n) ∙ side))
fits_ceiling (negsuc m) (negsuc n) fits side = fits_like m n (suc m % suc n) refl fits.sfits side

pub down_lowered : (a b q : ℤ) → FitsSigned w128 a → FitsSigned w128 b → Ok q ≡ divided_by (to_z w128 (of_z w128 b)) (bounded (quotient (to_z w128 (of_z w128 a)) (to_z w128 (of_z w128 b)))) → true ≡ have_opposite_signs (to_z w128 (of_z w128 (int_rem (to_z w128 (of_z w128 a)) (to_z w128 (of_z w128 b))))) (to_z w128 (of_z w128 b)) → Ok (to_z w128 (of_z w128 (to_z w128 (of_z w128 q) -ℤ pos 1))) ≡ divided_by b (bounded (floor_quotient a b))
down_lowered a b q fits_a fits_b answer test =
    let found = other_from_divided b q _ (at_arguments (λ (x y : ℤ). divided_by y (bounded (quotient x y))) a b (Ok q) fits_a fits_b answer) in
    let same = fits_from_bounded (quotient a b) q found.1 in
    let side : have_opposite_signs (int_rem a b) b ≡ true = side_of have_opposite_signs a b true fits_a fits_b test in
    let floor : floor_quotient a b ≡ quotient a b -ℤ pos 1 = floor_is a b found.0 ∙ ap (λ (t : Bool). cond t (quotient a b -ℤ pos 1) (quotient a b)) side in
    let inner : to_z w128 (of_z w128 q) ≡ quotient a b = ap (λ (y : ℤ). to_z w128 (of_z w128 y)) same.0 ∙ to_z-of_z w128 (quotient a b) same.1 in
    answer_from b _ (floor_quotient a b) found.0 (fits_floor a b fits_a side) (ap (λ (y : ℤ). y -ℤ pos 1) inner ∙ sym floor)

pub up_raised : (a b q : ℤ) → FitsSigned w128 a → FitsSigned w128 b → Ok q ≡ divided_by (to_z w128 (of_z w128 b)) (bounded (quotient (to_z w128 (of_z w128 a)) (to_z w128 (of_z w128 b)))) → true ≡ have_one_sign (to_z w128 (of_z w128 (int_rem (to_z w128 (of_z w128 a)) (to_z w128 (of_z w128 b))))) (to_z w128 (of_z w128 b)) → Ok (to_z w128 (of_z w128 (to_z w128 (of_z w128 q) +ℤ pos 1))) ≡ divided_by b (bounded (ceiling_quotient a b))
up_raised a b q fits_a fits_b answer test =
    let found = other_from_divided b q _ (at_arguments (λ (x y : ℤ). divided_by y (bounded (quotient x y))) a b (Ok q) fits_a fits_b answer) in
    let same = fits_from_bounded (quotient a b) q found.1 in
    let side : have_one_sign (int_rem a b) b ≡ true = side_of have_one_sign a b true fits_a fits_b test in
    let ceiling : ceiling_quotient a b ≡ quotient a b +ℤ pos 1 = ceiling_is a b found.0 ∙ ap (λ (t : Bool). cond t (quotient a b +ℤ pos 1) (quotient a b)) side in
    let inner : to_z w128 (of_z w128 q) ≡ quotient a b = ap (λ (y : ℤ). to_z w128 (of_z w128 y)) same.0 ∙ to_z-of_z w128 (quotient a b) same.1 in
    answer_from b _ (ceiling_quotient a b) found.0 (fits_ceiling a b fits_a side) (ap (λ (y : ℤ). y +ℤ pos 1) inner ∙ sym ceiling)

-- the quotient rounded towards zero is the answer where the other is that one
unmoved : (b q z other : ℤ) → Ok q ≡ divided_by b (bounded z) → (b ≢ pos 0 → other ≡ z) → Ok (to_z w128 (of_z w128 q)) ≡ divided_by b (bounded other)
unmoved b q z other answer e =
    let found = other_from_divided b q _ answer in
    let same = fits_from_bounded z q found.1 in
    let is_z = e found.0 in
    answer_from b q other found.0 (subst (FitsSigned w128) (sym is_z) same.1) (same.0 ∙ sym is_z)

pub down_unmoved : (a b q : ℤ) → FitsSigned w128 a → FitsSigned w128 b → Ok q ≡ divided_by (to_z w128 (of_z w128 b)) (bounded (quotient (to_z w128 (of_z w128 a)) (to_z w128 (of_z w128 b)))) → false ≡ have_opposite_signs (to_z w128 (of_z w128 (int_rem (to_z w128 (of_z w128 a)) (to_z w128 (of_z w128 b))))) (to_z w128 (of_z w128 b)) → Ok (to_z w128 (of_z w128 q)) ≡ divided_by b (bounded (floor_quotient a b))
down_unmoved a b q fits_a fits_b answer test =
    unmoved b q (quotient a b) (floor_quotient a b) (at_arguments (λ (x y : ℤ). divided_by y (bounded (quotient x y))) a b (Ok q) fits_a fits_b answer)
    (λ other. floor_is a b other ∙ ap (λ (t : Bool). cond t (quotient a b -ℤ pos 1) (quotient a b)) (side_of have_opposite_signs a b false fits_a fits_b test))

pub up_unmoved : (a b q : ℤ) → FitsSigned w128 a → FitsSigned w128 b → Ok q ≡ divided_by (to_z w128 (of_z w128 b)) (bounded (quotient (to_z w128 (of_z w128 a)) (to_z w128 (of_z w128 b)))) → false ≡ have_one_sign (to_z w128 (of_z w128 (int_rem (to_z w128 (of_z w128 a)) (to_z w128 (of_z w128 b))))) (to_z w128 (of_z w128 b)) → Ok (to_z w128 (of_z w128 q)) ≡ divided_by b (bounded (ceiling_quotient a b))
up_unmoved a b q fits_a fits_b answer test =
    unmoved b q (quotient a b) (ceiling_quotient a b) (at_arguments (λ (x y : ℤ). divided_by y (bounded (quotient x y))) a b (Ok q) fits_a fits_b answer)
    (λ other. ceiling_is a b other ∙ ap (λ (t : Bool). cond t (quotient a b +ℤ pos 1) (quotient a b)) (side_of have_one_sign a b false fits_a fits_b test))

-- ---- what a quotient leaves

fits_rem : (a b : ℤ) → FitsSigned w128 a → FitsSigned w128 (int_rem a b)
fits_rem a b fits = record { sfits = omega (arith, mag_rem a b, fits.sfits) }

fits_sum_opposite : (x y : ℤ) → FitsSigned w128 x → FitsSigned w128 y → have_opposite_signs x y ≡ true → FitsSigned w128 (x +ℤ y)
fits_sum_opposite (pos m) (pos n) f g side = absurd (false≢true (sym (opposite-pos_pos m n) ∙ side))
fits_sum_opposite (pos m) (negsuc n) f g side = grind (arith, ints)
fits_sum_opposite (negsuc m) (pos n) f g side = grind (arith, ints)
fits_sum_opposite (negsuc m) (negsuc n) f g side = absurd (false≢true side)

-- the rest r that `remainder` answers
rest_of : (a b r : ℤ) → FitsSigned w128 a → Ok r ≡ divided_by b (Ok (a -ℤ quotient a b *ℤ b)) → (b ≢ pos 0) × (r ≡ int_rem a b) × FitsSigned w128 r
rest_of a b r fits answer =
    let found = other_from_divided b r _ answer in
    let value : r ≡ a -ℤ quotient a b *ℤ b = cc found.1 in
    let same : r ≡ int_rem a b = value ∙ remainder_is a b in
    (found.0, same, subst (FitsSigned w128) (sym same) (fits_rem a b fits))

rest_side : (a b r : ℤ) (t : Bool) → FitsSigned w128 r → FitsSigned w128 b → r ≡ int_rem a b → t ≡ have_opposite_signs (to_z w128 (of_z w128 r)) (to_z w128 (of_z w128 b)) → have_opposite_signs (int_rem a b) b ≡ t
rest_side a b r t fits_r fits_b same test =
    sym (test ∙ (λ i. have_opposite_signs (to_z-of_z w128 r fits_r i) (to_z-of_z w128 b fits_b i)) ∙ ap (λ (x : ℤ). have_opposite_signs x b) same)

pub modulo_raised : (a b r : ℤ) → FitsSigned w128 a → FitsSigned w128 b → Ok r ≡ divided_by (to_z w128 (of_z w128 b)) (Ok (to_z w128 (of_z w128 a) -ℤ quotient (to_z w128 (of_z w128 a)) (to_z w128 (of_z w128 b)) *ℤ to_z w128 (of_z w128 b))) → true ≡ have_opposite_signs (to_z w128 (of_z w128 r)) (to_z w128 (of_z w128 b)) → Ok (to_z w128 (of_z w128 (to_z w128 (of_z w128 r) +ℤ to_z w128 (of_z w128 b)))) ≡ divided_by b (Ok (a -ℤ floor_quotient a b *ℤ b))
modulo_raised a b r fits_a fits_b answer test =
    let rest = rest_of a b r fits_a (at_arguments (λ (x y : ℤ). divided_by y (Ok (x -ℤ quotient x y *ℤ y))) a b (Ok r) fits_a fits_b answer) in
    let side : have_opposite_signs (int_rem a b) b ≡ true = rest_side a b r true rest.2 fits_b rest.1 test in
    let value : int_rem a b +ℤ b ≡ a -ℤ floor_quotient a b *ℤ b = sym (modulo_is a b rest.0 ∙ ap (λ (t : Bool). cond t (int_rem a b +ℤ b) (int_rem a b)) side) in
    let inner : to_z w128 (of_z w128 r) +ℤ to_z w128 (of_z w128 b) ≡ int_rem a b +ℤ b = (λ i. to_z-of_z w128 r rest.2 i +ℤ to_z-of_z w128 b fits_b i) ∙ ap (λ (x : ℤ). x +ℤ b) rest.1 in
    ap Ok (ap (λ (x : ℤ). to_z w128 (of_z w128 x)) inner ∙ to_z-of_z w128 (int_rem a b +ℤ b) (fits_sum_opposite (int_rem a b) b (fits_rem a b fits_a) fits_b side) ∙ value) ∙ sym (divided_by_other b _ rest.0)

pub modulo_unmoved : (a b r : ℤ) → FitsSigned w128 a → FitsSigned w128 b → Ok r ≡ divided_by (to_z w128 (of_z w128 b)) (Ok (to_z w128 (of_z w128 a) -ℤ quotient (to_z w128 (of_z w128 a)) (to_z w128 (of_z w128 b)) *ℤ to_z w128 (of_z w128 b))) → false ≡ have_opposite_signs (to_z w128 (of_z w128 r)) (to_z w128 (of_z w128 b)) → Ok (to_z w128 (of_z w128 r)) ≡ divided_by b (Ok (a -ℤ floor_quotient a b *ℤ b))
modulo_unmoved a b r fits_a fits_b answer test =
    let rest = rest_of a b r fits_a (at_arguments (λ (x y : ℤ). divided_by y (Ok (x -ℤ quotient x y *ℤ y))) a b (Ok r) fits_a fits_b answer) in
    let side : have_opposite_signs (int_rem a b) b ≡ false = rest_side a b r false rest.2 fits_b rest.1 test in
    let value : int_rem a b ≡ a -ℤ floor_quotient a b *ℤ b = sym (modulo_is a b rest.0 ∙ ap (λ (t : Bool). cond t (int_rem a b +ℤ b) (int_rem a b)) side) in
    ap Ok (to_z-of_z w128 r rest.2 ∙ rest.1 ∙ value) ∙ sym (divided_by_other b _ rest.0)
