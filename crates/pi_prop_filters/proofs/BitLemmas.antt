-- Sums of numbers of 128 bits that don't wrap.
use Rattle.std.specs.Prelude.{◌≡◌, ◌↔◌, ◌+◌, ◌^◌, ◌≤◌, Bool, true, false, not, IsTrue, ℤ, pos, ◌+ℤ◌, ◌-ℤ◌, neg_ℤ, ◌≤ℤ◌, int_le, nat_abs, refl, FitsSigned}
use Rattle.std.specs.Int.{int_max, w128, w64}
use Rattle.std.proofs.Common.{arith, sym, ◌∙◌, ap, subst, to_z, of_z}
use Rattle.std.proofs.lemmas.Bool.{false≢true}
use Rattle.std.proofs.lemmas.Int.{ints, clamps, to_z-of_z, fits_signed_from_abs}
use Rattle.pi_constraints.specs.Domain.{IsWithinBounds}
use Rattle.pi_prop_places.proofs.FitLemmas.{unwrapped}
use Rattle.pi_prop_places.proofs.HoleLemmas.{fits_narrow}
use Rattle.pi_prop_places.proofs.RoundLemmas.{le_test, test_le}

abs_sum : (x y : ℤ) → nat_abs (x +ℤ y) ≤ nat_abs x + nat_abs y
abs_sum x y = omega (arith, ints)

abs_minus : (x y : ℤ) → nat_abs (x -ℤ y) ≤ nat_abs x + nat_abs y
abs_minus x y = omega (arith, ints)

pub back : (x : ℤ) → nat_abs x ≤ 2 ^ 120 → to_z w128 (of_z w128 x) ≡ x
back x h = unwrapped x (omega arith)

-- a value is narrow enough for 64 bits
pub value_back_64 : (x : ℤ) → IsWithinBounds x → to_z w64 (of_z w64 x) ≡ x
value_back_64 x b = to_z-of_z w64 x (fits_narrow x (omega (arith, ints, b.0, b.1)) (omega (arith, ints, b.0, b.1)))

pub next_back_64 : (x : ℤ) → IsWithinBounds x → to_z w64 (of_z w64 (to_z w64 (of_z w64 x) +ℤ pos 1)) ≡ x +ℤ pos 1
next_back_64 x b =
    ap (λ (z : ℤ). to_z w64 (of_z w64 (z +ℤ pos 1))) (value_back_64 x b)
    ∙ to_z-of_z w64 (x +ℤ pos 1) (fits_narrow (x +ℤ pos 1) (omega (arith, ints, b.0, b.1)) (omega (arith, ints, b.0, b.1)))

max_within : (x y : ℤ) → IsWithinBounds x → IsWithinBounds y → IsWithinBounds (int_max x y)
max_within x y b c = (omega (arith, ints, clamps, b.0, c.0), omega (arith, ints, clamps, b.1, c.1))

max_one : (x : ℤ) → int_max x x ≡ x
max_one x = omega (arith, ints, clamps)

-- the greater of two values
pub max_back_64 : (result a x y : ℤ) → result ≡ int_max (to_z w64 (of_z w64 a)) (to_z w64 (of_z w64 y)) → a ≡ x → IsWithinBounds x → IsWithinBounds y → to_z w64 (of_z w64 result) ≡ int_max x y
max_back_64 result a x y is e b c =
    let left : to_z w64 (of_z w64 a) ≡ x = ap (λ (z : ℤ). to_z w64 (of_z w64 z)) e ∙ value_back_64 x b in
    let same : result ≡ int_max x y = is ∙ (λ i. int_max (left i) (value_back_64 y c i)) in
    ap (λ (z : ℤ). to_z w64 (of_z w64 z)) same ∙ value_back_64 (int_max x y) (max_within x y b c)

pub max_same_64 : (result a y : ℤ) → result ≡ int_max (to_z w64 (of_z w64 a)) (to_z w64 (of_z w64 y)) → a ≡ y → IsWithinBounds y → to_z w64 (of_z w64 result) ≡ y
max_same_64 result a y is e c = max_back_64 result a y y is e c c ∙ max_one y

-- the sum, the difference and the negative of numbers that come to x and y
pub sum_is : (p q x y : ℤ) → p ≡ x → q ≡ y → nat_abs x ≤ 2 ^ 118 → nat_abs y ≤ 2 ^ 118 → to_z w128 (of_z w128 (p +ℤ q)) ≡ x +ℤ y
sum_is p q x y e f h k = let wide = abs_sum x y in (λ i. to_z w128 (of_z w128 (e i +ℤ f i))) ∙ back (x +ℤ y) (omega arith)

pub minus_is : (p q x y : ℤ) → p ≡ x → q ≡ y → nat_abs x ≤ 2 ^ 118 → nat_abs y ≤ 2 ^ 118 → to_z w128 (of_z w128 (p -ℤ q)) ≡ x -ℤ y
minus_is p q x y e f h k = let wide = abs_minus x y in (λ i. to_z w128 (of_z w128 (e i -ℤ f i))) ∙ back (x -ℤ y) (omega arith)

pub small_minus : (x y : ℤ) → nat_abs x ≤ 2 ^ 117 → nat_abs y ≤ 2 ^ 117 → nat_abs (x -ℤ y) ≤ 2 ^ 118
small_minus x y h k = let wide = abs_minus x y in omega arith

-- what fits into 128 bits
sum_fits : (p q x y : ℤ) → p ≡ x → q ≡ y → nat_abs x ≤ 2 ^ 118 → nat_abs y ≤ 2 ^ 118 → FitsSigned w128 (p +ℤ q)
sum_fits p q x y e f h k = let wide = abs_sum x y in subst (FitsSigned w128) (sym (λ i. e i +ℤ f i)) (fits_signed_from_abs w128 (x +ℤ y) (omega arith))

minus_fits : (p q x y : ℤ) → p ≡ x → q ≡ y → nat_abs x ≤ 2 ^ 118 → nat_abs y ≤ 2 ^ 118 → FitsSigned w128 (p -ℤ q)
minus_fits p q x y e f h k = let wide = abs_minus x y in subst (FitsSigned w128) (sym (λ i. e i -ℤ f i)) (fits_signed_from_abs w128 (x -ℤ y) (omega arith))

bits_back : (x : ℤ) → nat_abs x ≤ 2 ^ 117 → to_z w128 (of_z w128 x) ≡ x
bits_back x h = back x (omega (arith, h))

pub bits_minus_fit : (x y : ℤ) → nat_abs x ≤ 2 ^ 117 → nat_abs y ≤ 2 ^ 117 → FitsSigned w128 (to_z w128 (of_z w128 x) -ℤ to_z w128 (of_z w128 y))
bits_minus_fit x y h k = minus_fits (to_z w128 (of_z w128 x)) (to_z w128 (of_z w128 y)) x y (bits_back x h) (bits_back y k) (omega (arith, h)) (omega (arith, k))

pub bits_negative_fit : (x : ℤ) → nat_abs x ≤ 2 ^ 117 → FitsSigned w128 (pos 0 -ℤ to_z w128 (of_z w128 x))
bits_negative_fit x h = minus_fits (pos 0) (to_z w128 (of_z w128 x)) (pos 0) x refl (bits_back x h) (omega arith) (omega (arith, h))

bits_minus_is : (x y : ℤ) → nat_abs x ≤ 2 ^ 117 → nat_abs y ≤ 2 ^ 117 → to_z w128 (of_z w128 (to_z w128 (of_z w128 x) -ℤ to_z w128 (of_z w128 y))) ≡ x -ℤ y
bits_minus_is x y h k = minus_is (to_z w128 (of_z w128 x)) (to_z w128 (of_z w128 y)) x y (bits_back x h) (bits_back y k) (omega (arith, h)) (omega (arith, k))

-- a number and what a part leaves of a whole
pub rest_fits : (p n x y : ℤ) → p ≡ n → nat_abs n ≤ 2 ^ 118 → nat_abs x ≤ 2 ^ 117 → nat_abs y ≤ 2 ^ 117 → FitsSigned w128 (p +ℤ to_z w128 (of_z w128 (to_z w128 (of_z w128 x) -ℤ to_z w128 (of_z w128 y))))
rest_fits p n x y e small h k = sum_fits p (to_z w128 (of_z w128 (to_z w128 (of_z w128 x) -ℤ to_z w128 (of_z w128 y)))) n (x -ℤ y) e (bits_minus_is x y h k) small (small_minus x y h k)

pub rest_small : (p n x y : ℤ) → p ≡ n → nat_abs n ≤ 2 ^ 118 → nat_abs x ≤ 2 ^ 117 → nat_abs y ≤ 2 ^ 117 → nat_abs (to_z w128 (of_z w128 (p +ℤ to_z w128 (of_z w128 (to_z w128 (of_z w128 x) -ℤ to_z w128 (of_z w128 y)))))) ≤ 2 ^ 120
rest_small p n x y e small h k =
    let less = small_minus x y h k in
    let wide = abs_sum n (x -ℤ y) in
    subst (λ (z : ℤ). nat_abs z ≤ 2 ^ 120) (sym (sum_is p (to_z w128 (of_z w128 (to_z w128 (of_z w128 x) -ℤ to_z w128 (of_z w128 y)))) n (x -ℤ y) e (bits_minus_is x y h k) small less)) (omega (arith, wide, small, less))

-- a test of a sum that didn't wrap
pub tested : (x y : ℤ) (P : Type 0) → x ≡ y → (y ≤ℤ pos 0) ↔ P → IsTrue (int_le x (pos 0)) ↔ P
tested x y P e f = (λ t. f.0 (subst (λ (z : ℤ). z ≤ℤ pos 0) e (test_le x (pos 0) t)), λ p. le_test x (pos 0) (subst (λ (z : ℤ). z ≤ℤ pos 0) (sym e) (f.1 p)))

pub small_negative : (x : ℤ) → nat_abs x ≤ 2 ^ 118 → nat_abs (neg_ℤ x) ≤ 2 ^ 118
small_negative x h = omega (arith, ints)

-- the opposite of a test
pub turned_true : (b : Bool) → (b ≡ true → ⊥) → not b ≡ true
turned_true true o = absurd (o refl)
turned_true false o = refl

pub turned_false : (b : Bool) → b ≡ true → not b ≡ true → ⊥
turned_false true e f = false≢true f
turned_false false e f = false≢true e
