-- How wide products and sums are.
use Rattle.std.specs.Prelude.{◌≡◌, ℕ, ◌+◌, ◌^◌, ◌<◌, ◌≤◌, ℤ, pos, ◌+ℤ◌, ◌-ℤ◌, ◌*ℤ◌, neg_ℤ, nat_abs, FitsSigned}
use Rattle.std.specs.Int.{int_min, int_max, w128}
use Rattle.std.proofs.Common.{arith, sym, ◌∙◌, ap, subst, mul-le-mul, to_z, of_z}
use Rattle.std.proofs.lemmas.Int.{ints, clamps, to_z-of_z, unsigned_abs-mul, fits_signed_from_abs}
use Rattle.pi_constraints.specs.Domain.{IsWithinBounds}
use Rattle.pi_prop_spec.proofs.NumberLemmas.{neg-*ℤ}

bound_small : (v : ℤ) → IsWithinBounds v → nat_abs v ≤ 2 ^ 56
bound_small v b = omega (arith, ints, b.0, b.1)

pub product_small : (c v : ℤ) → nat_abs c ≤ 2 ^ 40 → IsWithinBounds v → nat_abs (c *ℤ v) ≤ 2 ^ 96
product_small c v h b = subst (λ (x : ℕ). x ≤ 2 ^ 96) (sym (unsigned_abs-mul c v)) (mul-le-mul h (bound_small v b))

pub product_fits : (c v : ℤ) → nat_abs c ≤ 2 ^ 40 → IsWithinBounds v → FitsSigned w128 (c *ℤ v)
product_fits c v h b = let small = product_small c v h b in fits_signed_from_abs w128 (c *ℤ v) (omega arith)

pub min_small : (x y : ℤ) (b : ℕ) → nat_abs x ≤ b → nat_abs y ≤ b → nat_abs (int_min x y) ≤ b
min_small x y b h k = omega (arith, ints, clamps)

pub max_small : (x y : ℤ) (b : ℕ) → nat_abs x ≤ b → nat_abs y ≤ b → nat_abs (int_max x y) ≤ b
max_small x y b h k = omega (arith, ints, clamps)

pub unwrapped : (z : ℤ) → nat_abs z < 2 ^ 127 → to_z w128 (of_z w128 z) ≡ z
unwrapped z h = to_z-of_z w128 z (fits_signed_from_abs w128 z h)

abs_sum : (x y : ℤ) → nat_abs (x +ℤ y) ≤ nat_abs x + nat_abs y
abs_sum x y = omega (arith, ints)

-- a sum that was made of numbers of 128 bits
pub sum_back : (x p : ℤ) → nat_abs x ≤ 2 ^ 116 → nat_abs p ≤ 2 ^ 96 → to_z w128 (of_z w128 (to_z w128 (of_z w128 x) +ℤ to_z w128 (of_z w128 p))) ≡ x +ℤ p
sum_back x p h k =
    let a : to_z w128 (of_z w128 x) ≡ x = unwrapped x (omega arith) in
    let b : to_z w128 (of_z w128 p) ≡ p = unwrapped p (omega arith) in
    let wide = abs_sum x p in
    (λ i. to_z w128 (of_z w128 (a i +ℤ b i))) ∙ unwrapped (x +ℤ p) (omega arith)

pub zero_minus : (r : ℤ) → pos 0 -ℤ r ≡ neg_ℤ r
zero_minus r = omega (arith, ints)

abs_negative : (r : ℤ) → nat_abs (neg_ℤ r) ≡ nat_abs r
abs_negative r = omega (arith, ints)

pub negative_fits : (r : ℤ) → nat_abs r ≤ 2 ^ 120 → FitsSigned w128 (neg_ℤ r)
negative_fits r h = fits_signed_from_abs w128 (neg_ℤ r) (omega (arith, abs_negative r))

pub negative_back : (r : ℤ) → nat_abs r < 2 ^ 127 → to_z w128 (of_z w128 (pos 0 -ℤ to_z w128 (of_z w128 r))) ≡ neg_ℤ r
negative_back r h =
    let inner : pos 0 -ℤ to_z w128 (of_z w128 r) ≡ neg_ℤ r = ap (λ (x : ℤ). pos 0 -ℤ x) (unwrapped r h) ∙ zero_minus r in
    ap (λ (x : ℤ). to_z w128 (of_z w128 x)) inner ∙ unwrapped (neg_ℤ r) (omega (arith, abs_negative r))

-- the negative of a product
pub opposite_of : (c v : ℤ) → pos 0 -ℤ c *ℤ v ≡ neg_ℤ c *ℤ v
opposite_of c v = zero_minus (c *ℤ v) ∙ sym (neg-*ℤ c v)

pub opposite_small : (c v : ℤ) → nat_abs c ≤ 2 ^ 40 → IsWithinBounds v → nat_abs (neg_ℤ c *ℤ v) ≤ 2 ^ 96
opposite_small c v h b = product_small (neg_ℤ c) v (omega (arith, abs_negative c)) b

pub opposite_fits : (c v : ℤ) → nat_abs c ≤ 2 ^ 40 → IsWithinBounds v → FitsSigned w128 (pos 0 -ℤ c *ℤ v)
opposite_fits c v h b = let small = opposite_small c v h b in subst (FitsSigned w128) (sym (opposite_of c v)) (fits_signed_from_abs w128 (neg_ℤ c *ℤ v) (omega arith))

-- as the code has them
pub opposite_wrapped_fits : (c v : ℤ) → FitsSigned w128 c → FitsSigned w128 v → nat_abs c ≤ 2 ^ 40 → IsWithinBounds v → FitsSigned w128 (pos 0 -ℤ to_z w128 (of_z w128 (to_z w128 (of_z w128 c) *ℤ to_z w128 (of_z w128 v))))
opposite_wrapped_fits c v f g h b =
    let back : to_z w128 (of_z w128 (to_z w128 (of_z w128 c) *ℤ to_z w128 (of_z w128 v))) ≡ c *ℤ v =
    (λ i. to_z w128 (of_z w128 (to_z-of_z w128 c f i *ℤ to_z-of_z w128 v g i))) ∙ to_z-of_z w128 (c *ℤ v) (product_fits c v h b) in
    subst (λ (x : ℤ). FitsSigned w128 (pos 0 -ℤ x)) (sym back) (opposite_fits c v h b)

abs_minus : (x y : ℤ) → nat_abs (x -ℤ y) ≤ nat_abs x + nat_abs y
abs_minus x y = omega (arith, ints)

pub minus_fits : (x y : ℤ) → nat_abs x ≤ 2 ^ 117 → nat_abs y ≤ 2 ^ 96 → FitsSigned w128 (x -ℤ y)
minus_fits x y h k = let wide = abs_minus x y in fits_signed_from_abs w128 (x -ℤ y) (omega arith)

pub plus_fits : (x y : ℤ) → nat_abs x ≤ 2 ^ 100 → nat_abs y ≤ 2 ^ 116 → FitsSigned w128 (x +ℤ y)
plus_fits x y h k = let wide = abs_sum x y in fits_signed_from_abs w128 (x +ℤ y) (omega arith)

-- a difference of numbers of 128 bits
pub minus_back : (x y : ℤ) → nat_abs x ≤ 2 ^ 117 → nat_abs y ≤ 2 ^ 96 → to_z w128 (of_z w128 x) -ℤ to_z w128 (of_z w128 y) ≡ x -ℤ y
minus_back x y h k =
    let a : to_z w128 (of_z w128 x) ≡ x = unwrapped x (omega arith) in
    let b : to_z w128 (of_z w128 y) ≡ y = unwrapped y (omega arith) in
    (λ i. a i -ℤ b i)

pub minus_back_fits : (x y : ℤ) → nat_abs x ≤ 2 ^ 117 → nat_abs y ≤ 2 ^ 96 → FitsSigned w128 (to_z w128 (of_z w128 x) -ℤ to_z w128 (of_z w128 y))
minus_back_fits x y h k = subst (FitsSigned w128) (sym (minus_back x y h k)) (minus_fits x y h k)

-- a constant with what all terms but one add
pub rest_small : (m x y : ℤ) → nat_abs m ≤ 2 ^ 100 + 1 → nat_abs x ≤ 2 ^ 116 → nat_abs y ≤ 2 ^ 96 → nat_abs (m +ℤ (x -ℤ y)) ≤ 2 ^ 120
rest_small m x y h k l =
    let wide = abs_sum m (x -ℤ y) in
    let less = abs_minus x y in
    omega arith

rest_sum : (m x y : ℤ) → nat_abs m ≤ 2 ^ 100 + 1 → nat_abs x ≤ 2 ^ 116 → nat_abs y ≤ 2 ^ 96 → to_z w128 (of_z w128 m) +ℤ to_z w128 (of_z w128 (to_z w128 (of_z w128 x) -ℤ to_z w128 (of_z w128 y))) ≡ m +ℤ (x -ℤ y)
rest_sum m x y h k l =
    let less = abs_minus x y in
    let a : to_z w128 (of_z w128 m) ≡ m = unwrapped m (omega arith) in
    let b : to_z w128 (of_z w128 (to_z w128 (of_z w128 x) -ℤ to_z w128 (of_z w128 y))) ≡ x -ℤ y = ap (λ (z : ℤ). to_z w128 (of_z w128 z)) (minus_back x y (omega arith) l) ∙ unwrapped (x -ℤ y) (omega arith) in
    (λ i. a i +ℤ b i)

pub rest_fits : (m x y : ℤ) → nat_abs m ≤ 2 ^ 100 + 1 → nat_abs x ≤ 2 ^ 116 → nat_abs y ≤ 2 ^ 96 → FitsSigned w128 (to_z w128 (of_z w128 m) +ℤ to_z w128 (of_z w128 (to_z w128 (of_z w128 x) -ℤ to_z w128 (of_z w128 y))))
rest_fits m x y h k l =
    let small = rest_small m x y h k l in
    subst (FitsSigned w128) (sym (rest_sum m x y h k l)) (fits_signed_from_abs w128 (m +ℤ (x -ℤ y)) (omega arith))

pub rest_back : (m x y : ℤ) → nat_abs m ≤ 2 ^ 100 + 1 → nat_abs x ≤ 2 ^ 116 → nat_abs y ≤ 2 ^ 96 → to_z w128 (of_z w128 (to_z w128 (of_z w128 m) +ℤ to_z w128 (of_z w128 (to_z w128 (of_z w128 x) -ℤ to_z w128 (of_z w128 y))))) ≡ m +ℤ (x -ℤ y)
rest_back m x y h k l =
    let small = rest_small m x y h k l in
    ap (λ (z : ℤ). to_z w128 (of_z w128 z)) (rest_sum m x y h k l) ∙ unwrapped (m +ℤ (x -ℤ y)) (omega arith)

-- a product as the code has it
pub product_wrapped_fits : (c v : ℤ) → FitsSigned w128 c → FitsSigned w128 v → nat_abs c ≤ 2 ^ 40 → IsWithinBounds v → FitsSigned w128 (to_z w128 (of_z w128 c) *ℤ to_z w128 (of_z w128 v))
product_wrapped_fits c v f g h b = subst (FitsSigned w128) (sym (λ i. to_z-of_z w128 c f i *ℤ to_z-of_z w128 v g i)) (product_fits c v h b)

-- a sum as the code has it
plus_back_inner : (x y : ℤ) → nat_abs x ≤ 2 ^ 100 → nat_abs y ≤ 2 ^ 116 → to_z w128 (of_z w128 x) +ℤ to_z w128 (of_z w128 y) ≡ x +ℤ y
plus_back_inner x y h k =
    let a : to_z w128 (of_z w128 x) ≡ x = unwrapped x (omega arith) in
    let b : to_z w128 (of_z w128 y) ≡ y = unwrapped y (omega arith) in
    (λ i. a i +ℤ b i)

pub plus_back_fits : (x y : ℤ) → nat_abs x ≤ 2 ^ 100 → nat_abs y ≤ 2 ^ 116 → FitsSigned w128 (to_z w128 (of_z w128 x) +ℤ to_z w128 (of_z w128 y))
plus_back_fits x y h k = subst (FitsSigned w128) (sym (plus_back_inner x y h k)) (plus_fits x y h k)

pub plus_back_small : (x y : ℤ) → nat_abs x ≤ 2 ^ 100 → nat_abs y ≤ 2 ^ 116 → nat_abs (to_z w128 (of_z w128 (to_z w128 (of_z w128 x) +ℤ to_z w128 (of_z w128 y)))) ≤ 2 ^ 117
plus_back_small x y h k =
    let wide = abs_sum x y in
    let back : to_z w128 (of_z w128 (to_z w128 (of_z w128 x) +ℤ to_z w128 (of_z w128 y))) ≡ x +ℤ y = ap (λ (z : ℤ). to_z w128 (of_z w128 z)) (plus_back_inner x y h k) ∙ unwrapped (x +ℤ y) (omega arith) in
    subst (λ (z : ℤ). nat_abs z ≤ 2 ^ 117) (sym back) (omega arith)

-- a negative as the code has it
pub negative_wrapped_fits : (r : ℤ) → nat_abs r ≤ 2 ^ 120 → FitsSigned w128 (pos 0 -ℤ to_z w128 (of_z w128 r))
negative_wrapped_fits r h = subst (FitsSigned w128) (sym (ap (λ (x : ℤ). pos 0 -ℤ x) (unwrapped r (omega arith)) ∙ zero_minus r)) (negative_fits r h)

pub negative_not_zero : (r : ℤ) → (r ≡ pos 0 → ⊥) → neg_ℤ r ≡ pos 0 → ⊥
negative_not_zero r o e = o (omega (arith, ints))
