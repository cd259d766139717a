-- How wide products of values are.
use Rattle.std.specs.Prelude.{◌≡◌, ℕ, ◌^◌, ◌≤◌, ℤ, ◌*ℤ◌, nat_abs, FitsSigned}
use Rattle.std.specs.Int.{int_min, int_max, w128}
use Rattle.std.proofs.Common.{arith, sym, subst, mul-le-mul, to_z, of_z}
use Rattle.std.proofs.lemmas.Int.{ints, to_z-of_z, unsigned_abs-mul, fits_signed_from_abs}
use Rattle.pi_constraints.specs.Domain.{IsWithinBounds}
use Rattle.pi_prop_places.proofs.FitLemmas.{min_small, max_small}

pub value_small : (v : ℤ) → IsWithinBounds v → nat_abs v ≤ 2 ^ 56
value_small v b = omega (arith, ints, b.0, b.1)

pub product_small : (c v : ℤ) → IsWithinBounds c → IsWithinBounds v → nat_abs (c *ℤ v) ≤ 2 ^ 112
product_small c v a b = subst (λ (x : ℕ). x ≤ 2 ^ 112) (sym (unsigned_abs-mul c v)) (mul-le-mul (value_small c a) (value_small v b))

pub product_fits : (c v : ℤ) → IsWithinBounds c → IsWithinBounds v → FitsSigned w128 (c *ℤ v)
product_fits c v a b = let small = product_small c v a b in fits_signed_from_abs w128 (c *ℤ v) (omega arith)

pub value_fits : (v : ℤ) → IsWithinBounds v → FitsSigned w128 v
value_fits v b = let small = value_small v b in fits_signed_from_abs w128 v (omega arith)

pub value_back : (v : ℤ) → IsWithinBounds v → to_z w128 (of_z w128 v) ≡ v
value_back v b = to_z-of_z w128 v (value_fits v b)

small_fits : (v : ℤ) → nat_abs v ≤ 2 ^ 112 → FitsSigned w128 v
small_fits v h = fits_signed_from_abs w128 v (omega arith)

pub product_bits_fit : (c v : ℤ) → IsWithinBounds c → IsWithinBounds v → FitsSigned w128 (to_z w128 (of_z w128 c) *ℤ to_z w128 (of_z w128 v))
product_bits_fit c v a b = subst (FitsSigned w128) (sym (λ i. value_back c a i *ℤ value_back v b i)) (product_fits c v a b)

-- the least and the greatest of two products, and of four
pub least_fits : (c a b : ℤ) → IsWithinBounds c → IsWithinBounds a → IsWithinBounds b → FitsSigned w128 (int_min (c *ℤ a) (c *ℤ b))
least_fits c a b x y z = small_fits (int_min (c *ℤ a) (c *ℤ b)) (min_small (c *ℤ a) (c *ℤ b) (2 ^ 112) (product_small c a x y) (product_small c b x z))

pub greatest_fits : (c a b : ℤ) → IsWithinBounds c → IsWithinBounds a → IsWithinBounds b → FitsSigned w128 (int_max (c *ℤ a) (c *ℤ b))
greatest_fits c a b x y z = small_fits (int_max (c *ℤ a) (c *ℤ b)) (max_small (c *ℤ a) (c *ℤ b) (2 ^ 112) (product_small c a x y) (product_small c b x z))

abbrev pub least_of_four : ℤ → ℤ → ℤ → ℤ → ℤ
least_of_four al ah bl bh = int_min (int_min (al *ℤ bl) (al *ℤ bh)) (int_min (ah *ℤ bl) (ah *ℤ bh))

abbrev pub greatest_of_four : ℤ → ℤ → ℤ → ℤ → ℤ
greatest_of_four al ah bl bh = int_max (int_max (al *ℤ bl) (al *ℤ bh)) (int_max (ah *ℤ bl) (ah *ℤ bh))

pub least_corner_fits : (al ah bl bh : ℤ) → IsWithinBounds al → IsWithinBounds ah → IsWithinBounds bl → IsWithinBounds bh → FitsSigned w128 (least_of_four al ah bl bh)
least_corner_fits al ah bl bh p q r s =
    small_fits (least_of_four al ah bl bh) (min_small (int_min (al *ℤ bl) (al *ℤ bh)) (int_min (ah *ℤ bl) (ah *ℤ bh)) (2 ^ 112)
    (min_small (al *ℤ bl) (al *ℤ bh) (2 ^ 112) (product_small al bl p r) (product_small al bh p s))
    (min_small (ah *ℤ bl) (ah *ℤ bh) (2 ^ 112) (product_small ah bl q r) (product_small ah bh q s)))

pub greatest_corner_fits : (al ah bl bh : ℤ) → IsWithinBounds al → IsWithinBounds ah → IsWithinBounds bl → IsWithinBounds bh → FitsSigned w128 (greatest_of_four al ah bl bh)
greatest_corner_fits al ah bl bh p q r s =
    small_fits (greatest_of_four al ah bl bh) (max_small (int_max (al *ℤ bl) (al *ℤ bh)) (int_max (ah *ℤ bl) (ah *ℤ bh)) (2 ^ 112)
    (max_small (al *ℤ bl) (al *ℤ bh) (2 ^ 112) (product_small al bl p r) (product_small al bh p s))
    (max_small (ah *ℤ bl) (ah *ℤ bh) (2 ^ 112) (product_small ah bl q r) (product_small ah bh q s)))
