-- Numbers of 64 bits as numbers of 128 bits, and tests of both.
use Rattle.std.specs.Prelude.{◌≡◌, ◌+◌, ◌^◌, ◌<◌, ◌≤◌, true, false, ℤ, pos, ◌+ℤ◌, ◌-ℤ◌, neg_ℤ, ◌≤ℤ◌, ◌<ℤ◌, int_le, int_lt, nat_abs, FitsSigned}
use Rattle.std.specs.Int.{w64, w128}
use Rattle.std.proofs.Common.{arith, sym, ◌∙◌, ap, subst, to_z, of_z}
use Rattle.std.proofs.lemmas.Int.{ints, by_lt_z, to_z-of_z, fits_signed_from_abs}
use Rattle.std.proofs.lemmas.Bool.{false≢true}
use Rattle.pi_constraints.specs.declared.domain.TheConstants.{MAX_VALUE}
use Rattle.pi_constraints.specs.Domain.{IsWithinBounds}
use Rattle.pi_prop_places.proofs.FitLemmas.{unwrapped}
use Rattle.pi_prop_places.proofs.HoleLemmas.{bounds_fit}
use Rattle.pi_prop_places.proofs.RoundLemmas.{le_test, test_le}

narrow : (x : ℤ) → IsWithinBounds x → nat_abs x ≤ 2 ^ 56
narrow x b = omega (arith, ints, b.0, b.1)

next_narrow : (x : ℤ) → nat_abs (x +ℤ pos 1) ≤ nat_abs x + 1
next_narrow x = omega (arith, ints)

before_narrow : (x : ℤ) → nat_abs (x -ℤ pos 1) ≤ nat_abs x + 1
before_narrow x = omega (arith, ints)

pub widened : (x r : ℤ) → IsWithinBounds x → r ≡ to_z w64 (of_z w64 x) → to_z w128 (of_z w128 r) ≡ x
widened x r b e =
    let small = narrow x b in
    ap (λ (z : ℤ). to_z w128 (of_z w128 z)) (e ∙ to_z-of_z w64 x (bounds_fit x b)) ∙ unwrapped x (omega arith)

next_small : (x : ℤ) → IsWithinBounds x → nat_abs (x +ℤ pos 1) < 2 ^ 127
next_small x b = let small = narrow x b in let more = next_narrow x in omega arith

before_small : (x : ℤ) → IsWithinBounds x → nat_abs (x -ℤ pos 1) < 2 ^ 127
before_small x b = let small = narrow x b in let more = before_narrow x in omega arith

pub wide_next_fits : (x r : ℤ) → IsWithinBounds x → r ≡ to_z w64 (of_z w64 x) → FitsSigned w128 (to_z w128 (of_z w128 r) +ℤ pos 1)
wide_next_fits x r b e = subst (λ (z : ℤ). FitsSigned w128 (z +ℤ pos 1)) (sym (widened x r b e)) (fits_signed_from_abs w128 (x +ℤ pos 1) (next_small x b))

pub wide_before_fits : (x r : ℤ) → IsWithinBounds x → r ≡ to_z w64 (of_z w64 x) → FitsSigned w128 (to_z w128 (of_z w128 r) -ℤ pos 1)
wide_before_fits x r b e = subst (λ (z : ℤ). FitsSigned w128 (z -ℤ pos 1)) (sym (widened x r b e)) (fits_signed_from_abs w128 (x -ℤ pos 1) (before_small x b))

pub wide_next : (x r : ℤ) → IsWithinBounds x → r ≡ to_z w64 (of_z w64 x) → to_z w128 (of_z w128 (to_z w128 (of_z w128 r) +ℤ pos 1)) ≡ x +ℤ pos 1
wide_next x r b e = ap (λ (z : ℤ). to_z w128 (of_z w128 (z +ℤ pos 1))) (widened x r b e) ∙ unwrapped (x +ℤ pos 1) (next_small x b)

pub wide_before : (x r : ℤ) → IsWithinBounds x → r ≡ to_z w64 (of_z w64 x) → to_z w128 (of_z w128 (to_z w128 (of_z w128 r) -ℤ pos 1)) ≡ x -ℤ pos 1
wide_before x r b e = ap (λ (z : ℤ). to_z w128 (of_z w128 (z -ℤ pos 1))) (widened x r b e) ∙ unwrapped (x -ℤ pos 1) (before_small x b)

-- ---- tests of the code

pub at_most_is : (x y : ℤ) → IsWithinBounds x → IsWithinBounds y → int_le (to_z w64 (of_z w64 x)) (to_z w64 (of_z w64 y)) ≡ true → x ≤ℤ y
at_most_is x y a b t = test_le x y (sym (λ i. int_le (to_z-of_z w64 x (bounds_fit x a) i) (to_z-of_z w64 y (bounds_fit y b) i)) ∙ t)

pub above_is : (x y : ℤ) → IsWithinBounds x → IsWithinBounds y → int_le (to_z w64 (of_z w64 x)) (to_z w64 (of_z w64 y)) ≡ false → y <ℤ x
above_is x y a b t =
    by_lt_z y x (λ h. h) (λ h. absurd (false≢true (sym t ∙ ((λ i. int_le (to_z-of_z w64 x (bounds_fit x a) i) (to_z-of_z w64 y (bounds_fit y b) i)) ∙ le_test x y h))))

from_lowest : (x y : ℤ) → IsWithinBounds y → y <ℤ x → neg_ℤ MAX_VALUE <ℤ x
from_lowest x y b h = omega (arith, ints, b.0)

to_highest : (x y : ℤ) → IsWithinBounds y → x <ℤ y → x <ℤ MAX_VALUE
to_highest x y b h = omega (arith, ints, b.1)

pub above_lowest : (x y : ℤ) → IsWithinBounds x → IsWithinBounds y → int_le (to_z w64 (of_z w64 x)) (to_z w64 (of_z w64 y)) ≡ false → neg_ℤ MAX_VALUE <ℤ to_z w64 (of_z w64 x)
above_lowest x y a b t = subst (λ (z : ℤ). neg_ℤ MAX_VALUE <ℤ z) (sym (to_z-of_z w64 x (bounds_fit x a))) (from_lowest x y b (above_is x y a b t))

pub below_highest : (x y : ℤ) → IsWithinBounds x → IsWithinBounds y → int_le (to_z w64 (of_z w64 x)) (to_z w64 (of_z w64 y)) ≡ false → to_z w64 (of_z w64 y) <ℤ MAX_VALUE
below_highest x y a b t = subst (λ (z : ℤ). z <ℤ MAX_VALUE) (sym (to_z-of_z w64 y (bounds_fit y b))) (to_highest y x a (above_is x y a b t))

pub lt_test : (x y : ℤ) → x <ℤ y → int_lt x y ≡ true
lt_test x y h = grind (arith, ints)

pub test_lt : (x y : ℤ) → int_lt x y ≡ true → x <ℤ y
test_lt x y h = grind (arith, ints)

pub wide_below : (n x r : ℤ) → IsWithinBounds x → r ≡ to_z w64 (of_z w64 x) → int_lt n (to_z w128 (of_z w128 r)) ≡ true → n <ℤ x
wide_below n x r b e t = test_lt n x (sym (ap (int_lt n) (widened x r b e)) ∙ t)

pub wide_not_below : (n x r : ℤ) → IsWithinBounds x → r ≡ to_z w64 (of_z w64 x) → int_lt n (to_z w128 (of_z w128 r)) ≡ false → x ≤ℤ n
wide_not_below n x r b e t = by_lt_z n x (λ h. absurd (false≢true (sym t ∙ (ap (int_lt n) (widened x r b e) ∙ lt_test n x h)))) (λ h. h)

pub wide_above : (n x r : ℤ) → IsWithinBounds x → r ≡ to_z w64 (of_z w64 x) → int_lt (to_z w128 (of_z w128 r)) n ≡ true → x <ℤ n
wide_above n x r b e t = test_lt x n (sym (ap (λ (z : ℤ). int_lt z n) (widened x r b e)) ∙ t)

pub lt_le : (x y : ℤ) → x <ℤ y → x ≤ℤ y
lt_le x y h = omega (arith, ints)

-- a number of 128 bits as one of 64
pub narrowed_back : (n : ℤ) → FitsSigned w128 n → IsWithinBounds n → to_z w64 (of_z w64 (to_z w128 (of_z w128 n))) ≡ n
narrowed_back n f b = ap (λ (z : ℤ). to_z w64 (of_z w64 z)) (to_z-of_z w128 n f) ∙ to_z-of_z w64 n (bounds_fit n b)

pub le_told : (x y : ℤ) → FitsSigned w64 x → FitsSigned w64 y → int_le (to_z w64 (of_z w64 x)) (to_z w64 (of_z w64 y)) ≡ true → x ≤ℤ y
le_told x y f g t = test_le x y (sym (λ i. int_le (to_z-of_z w64 x f i) (to_z-of_z w64 y g i)) ∙ t)

pub told_le : (x y : ℤ) → FitsSigned w64 x → FitsSigned w64 y → x ≤ℤ y → int_le (to_z w64 (of_z w64 x)) (to_z w64 (of_z w64 y)) ≡ true
told_le x y f g h = (λ i. int_le (to_z-of_z w64 x f i) (to_z-of_z w64 y g i)) ∙ le_test x y h

pub lt_told : (x y : ℤ) → FitsSigned w64 x → FitsSigned w64 y → int_lt (to_z w64 (of_z w64 x)) (to_z w64 (of_z w64 y)) ≡ true → x <ℤ y
lt_told x y f g t = test_lt x y (sym (λ i. int_lt (to_z-of_z w64 x f i) (to_z-of_z w64 y g i)) ∙ t)

pub not_lt_told : (x y : ℤ) → FitsSigned w64 x → FitsSigned w64 y → int_lt (to_z w64 (of_z w64 x)) (to_z w64 (of_z w64 y)) ≡ false → y ≤ℤ x
not_lt_told x y f g t = by_lt_z x y (λ h. absurd (false≢true (sym t ∙ ((λ i. int_lt (to_z-of_z w64 x f i) (to_z-of_z w64 y g i)) ∙ lt_test x y h)))) (λ h. h)
