-- Products between ends, and the least and the greatest of two numbers.
use Rattle.std.specs.Prelude.{◌≡◌, ℕ, zero, suc, ◌+◌, ◌*◌, ◌≤◌, ℤ, pos, negsuc, ◌*ℤ◌, neg_ℤ, ◌≤ℤ◌}
use Rattle.std.specs.Int.{int_min, int_max}
use Rattle.std.proofs.Common.{arith, subst, mul-le-mul_left}
use Rattle.std.proofs.lemmas.Int.{ints, clamps}
use Rattle.std.proofs.Math.IntN.{*ℤ_comm}
use borrow.Author.Differences.{up, down}

pub min_below_left : (x y z : ℤ) → x ≤ℤ z → int_min x y ≤ℤ z
min_below_left x y z h = omega (arith, ints, clamps)

pub min_below_right : (x y z : ℤ) → y ≤ℤ z → int_min x y ≤ℤ z
min_below_right x y z h = omega (arith, ints, clamps)

pub below_min : (x y z : ℤ) → z ≤ℤ x → z ≤ℤ y → z ≤ℤ int_min x y
below_min x y z h k = omega (arith, ints, clamps)

pub max_above_left : (x y z : ℤ) → z ≤ℤ x → z ≤ℤ int_max x y
max_above_left x y z h = omega (arith, ints, clamps)

pub max_above_right : (x y z : ℤ) → z ≤ℤ y → z ≤ℤ int_max x y
max_above_right x y z h = omega (arith, ints, clamps)

pub above_max : (x y z : ℤ) → x ≤ℤ z → y ≤ℤ z → int_max x y ≤ℤ z
above_max x y z h k = omega (arith, ints, clamps)

pub min_same : (x : ℤ) → int_min x x ≡ x
min_same x = omega (arith, ints, clamps)

pub max_same : (x : ℤ) → int_max x x ≡ x
max_same x = omega (arith, ints, clamps)

pub trans : (x y z : ℤ) → x ≤ℤ y → y ≤ℤ z → x ≤ℤ z
trans x y z h k = omega (arith, ints)

scaled_up : (a : ℕ) (x y : ℤ) → x ≤ℤ y → (pos a *ℤ x) ≤ℤ (pos a *ℤ y)
scaled_up a x y h =
    let sums : up x + down y ≤ up y + down x = omega (arith, ints) in
    let m : a * (up x + down y) ≤ a * (up y + down x) = mul-le-mul_left a sums in
    omega (arith, ints)

scaled_down : (a : ℕ) (x y : ℤ) → x ≤ℤ y → (negsuc a *ℤ y) ≤ℤ (negsuc a *ℤ x)
scaled_down a x y h =
    let sums : up x + down y ≤ up y + down x = omega (arith, ints) in
    let m : suc a * (up x + down y) ≤ suc a * (up y + down x) = mul-le-mul_left (suc a) sums in
    omega (arith, ints)

-- the product with the negative of a factor
pub neg-*ℤ : (c v : ℤ) → neg_ℤ c *ℤ v ≡ neg_ℤ (c *ℤ v)
neg-*ℤ (pos zero) v = omega (arith, ints)
neg-*ℤ (pos (suc m)) v = omega (arith, ints)
neg-*ℤ (negsuc m) v = omega (arith, ints)

-- c * v, for v from lo to hi, lies between c * lo and c * hi
pub least_scaled : (c lo v hi : ℤ) → lo ≤ℤ v → v ≤ℤ hi → int_min (c *ℤ lo) (c *ℤ hi) ≤ℤ (c *ℤ v)
least_scaled (pos a) lo v hi l h = min_below_left (pos a *ℤ lo) (pos a *ℤ hi) (pos a *ℤ v) (scaled_up a lo v l)
least_scaled (negsuc a) lo v hi l h = min_below_right (negsuc a *ℤ lo) (negsuc a *ℤ hi) (negsuc a *ℤ v) (scaled_down a v hi h)

pub greatest_scaled : (c lo v hi : ℤ) → lo ≤ℤ v → v ≤ℤ hi → (c *ℤ v) ≤ℤ int_max (c *ℤ lo) (c *ℤ hi)
greatest_scaled (pos a) lo v hi l h = max_above_right (pos a *ℤ lo) (pos a *ℤ hi) (pos a *ℤ v) (scaled_up a v hi h)
greatest_scaled (negsuc a) lo v hi l h = max_above_left (negsuc a *ℤ lo) (negsuc a *ℤ hi) (negsuc a *ℤ v) (scaled_down a lo v l)

-- the same with the other factor
pub least_scaled_right : (c lo v hi : ℤ) → lo ≤ℤ v → v ≤ℤ hi → int_min (lo *ℤ c) (hi *ℤ c) ≤ℤ (v *ℤ c)
least_scaled_right c lo v hi l h =
    subst (λ (x : ℤ). int_min x (hi *ℤ c) ≤ℤ (v *ℤ c)) (*ℤ_comm c lo)
    (subst (λ (x : ℤ). int_min (c *ℤ lo) x ≤ℤ (v *ℤ c)) (*ℤ_comm c hi)
    (subst (λ (x : ℤ). int_min (c *ℤ lo) (c *ℤ hi) ≤ℤ x) (*ℤ_comm c v) (least_scaled c lo v hi l h)))

pub greatest_scaled_right : (c lo v hi : ℤ) → lo ≤ℤ v → v ≤ℤ hi → (v *ℤ c) ≤ℤ int_max (lo *ℤ c) (hi *ℤ c)
greatest_scaled_right c lo v hi l h =
    subst (λ (x : ℤ). (v *ℤ c) ≤ℤ int_max x (hi *ℤ c)) (*ℤ_comm c lo)
    (subst (λ (x : ℤ). (v *ℤ c) ≤ℤ int_max (c *ℤ lo) x) (*ℤ_comm c hi)
    (subst (λ (x : ℤ). x ≤ℤ int_max (c *ℤ lo) (c *ℤ hi)) (*ℤ_comm c v) (greatest_scaled c lo v hi l h)))

-- a product of numbers between ends lies between the products of the ends
pub above_corners : (al ah bl bh u v : ℤ) → al ≤ℤ u → u ≤ℤ ah → bl ≤ℤ v → v ≤ℤ bh → int_min (int_min (al *ℤ bl) (al *ℤ bh)) (int_min (ah *ℤ bl) (ah *ℤ bh)) ≤ℤ (u *ℤ v)
above_corners al ah bl bh u v h k l m =
    let lefts = int_min (al *ℤ bl) (al *ℤ bh) in
    let rights = int_min (ah *ℤ bl) (ah *ℤ bh) in
    let left : lefts ≤ℤ (al *ℤ v) = least_scaled al bl v bh l m in
    let right : rights ≤ℤ (ah *ℤ v) = least_scaled ah bl v bh l m in
    let both : int_min lefts rights ≤ℤ int_min (al *ℤ v) (ah *ℤ v) =
    below_min (al *ℤ v) (ah *ℤ v) (int_min lefts rights) (min_below_left lefts rights (al *ℤ v) left) (min_below_right lefts rights (ah *ℤ v) right) in
    trans (int_min lefts rights) (int_min (al *ℤ v) (ah *ℤ v)) (u *ℤ v) both (least_scaled_right v al u ah h k)

pub below_corners : (al ah bl bh u v : ℤ) → al ≤ℤ u → u ≤ℤ ah → bl ≤ℤ v → v ≤ℤ bh → (u *ℤ v) ≤ℤ int_max (int_max (al *ℤ bl) (al *ℤ bh)) (int_max (ah *ℤ bl) (ah *ℤ bh))
below_corners al ah bl bh u v h k l m =
    let lefts = int_max (al *ℤ bl) (al *ℤ bh) in
    let rights = int_max (ah *ℤ bl) (ah *ℤ bh) in
    let left : (al *ℤ v) ≤ℤ lefts = greatest_scaled al bl v bh l m in
    let right : (ah *ℤ v) ≤ℤ rights = greatest_scaled ah bl v bh l m in
    let both : int_max (al *ℤ v) (ah *ℤ v) ≤ℤ int_max lefts rights =
    above_max (al *ℤ v) (ah *ℤ v) (int_max lefts rights) (max_above_left lefts rights (al *ℤ v) left) (max_above_right lefts rights (ah *ℤ v) right) in
    trans (u *ℤ v) (int_max (al *ℤ v) (ah *ℤ v)) (int_max lefts rights) (greatest_scaled_right v al u ah h k) both
