-- A power by the square of the power at half the exponent.
use Rattle.std.proofs.Common.{◌≡◌, ℕ, zero, suc, ◌+◌, ◌*◌, ◌/◌, ◌%◌, ◌^◌, ◌<◌, ◌≤◌, ℤ, pos, negsuc, ◌*ℤ◌, neg_ℤ, unsigned_abs, FitsSigned, to_z, of_z, Option, None, SomeIff, refl, sym, ap, ◌∙◌, subst, arith}
use Rattle.std.specs.Int.{w128}
use Rattle.std.proofs.Math.IntN.{*ℤ_comm}
use Rattle.std.proofs.Math.Nat.{mul-one, pow-suc, pow-zero, pow-le-pow_right, mul-le-mul_left}
use Rattle.std.proofs.lemmas.Int.{to_z-of_z, unsigned_abs-mul, fits_signed_from_abs}
use Rattle.pi_effects.specs.Power.{power}
use Rattle.pi_effects.proofs.ProductLemmas.{*ℤ_assoc}

times_one : (a : ℤ) → a *ℤ pos 1 ≡ a
times_one (pos n) = ap pos (mul-one n)
times_one (negsuc n) = ap (λ (x : ℕ). neg_ℤ (pos x)) (mul-one (suc n))

pub power-zero : (a : ℤ) → power a 0 ≡ pos 1
unfolding power
power-zero a = refl

pub power-suc : (a : ℤ) (n : ℕ) → power a (suc n) ≡ power a n *ℤ a
unfolding power
power-suc a n = refl

pub power-add : (a : ℤ) (m n : ℕ) → power a (m + n) ≡ power a m *ℤ power a n
power-add a m zero = ap (power a) (omega arith) ∙ sym (ap (λ (x : ℤ). power a m *ℤ x) (power-zero a) ∙ times_one (power a m))
power-add a m (suc n) =
    ap (power a) (omega arith) ∙ power-suc a (m + n) ∙ ap (λ (x : ℤ). x *ℤ a) (power-add a m n) ∙ *ℤ_assoc (power a m) (power a n) a
    ∙ ap (λ (x : ℤ). power a m *ℤ x) (sym (power-suc a n))

one_times : (a : ℤ) → pos 1 *ℤ a ≡ a
one_times a = *ℤ_comm (pos 1) a ∙ times_one a

pub power-one : (a : ℤ) → power a 1 ≡ a
power-one a = power-suc a zero ∙ ap (λ (x : ℤ). x *ℤ a) (power-zero a) ∙ one_times a

pub power-even : (a : ℤ) (n : ℕ) → n % 2 ≡ 0 → power a n ≡ power a (n / 2) *ℤ power a (n / 2)
power-even a n even = ap (power a) (omega arith) ∙ power-add a (n / 2) (n / 2)

pub power-odd : (a : ℤ) (n : ℕ) → (n % 2 ≡ 0 → ⊥) → power a n ≡ power a (n / 2) *ℤ power a (n / 2) *ℤ a
power-odd a n odd = ap (power a) (omega arith) ∙ power-suc a (n / 2 + n / 2) ∙ ap (λ (x : ℤ). x *ℤ a) (power-add a (n / 2) (n / 2))

-- ---- how large a power is

pub unsigned_abs-power : (a : ℤ) (n : ℕ) → unsigned_abs (power a n) ≡ unsigned_abs a ^ n
unsigned_abs-power a zero = ap unsigned_abs (power-zero a) ∙ sym (pow-zero (unsigned_abs a))
unsigned_abs-power a (suc n) =
    ap unsigned_abs (power-suc a n) ∙ unsigned_abs-mul (power a n) a ∙ ap (λ (x : ℕ). x * unsigned_abs a) (unsigned_abs-power a n) ∙ sym (pow-suc (unsigned_abs a) n)

-- a number that doesn't fit is at least 2^127 large, and one that is larger doesn't fit
large_from_wide : (z : ℤ) → (FitsSigned w128 z → ⊥) → 2 ^ 127 ≤ unsigned_abs z
large_from_wide z wide = grind (arith, fits_signed_from_abs w128 z)

wide_from_large : (z : ℤ) → 2 ^ 127 < unsigned_abs z → FitsSigned w128 z → ⊥
wide_from_large (pos n) large fits = omega (arith, fits.sfits)
wide_from_large (negsuc n) large fits = omega (arith, fits.sfits)

pow-of_one : (n : ℕ) → 1 ^ n ≡ 1
pow-of_one zero = pow-zero 1
pow-of_one (suc n) = omega (arith, pow-suc 1 n, pow-of_one n)

base_above_one : (x n : ℕ) → 1 < x ^ n → 1 < x
base_above_one zero zero above = omega (arith, pow-zero 0)
base_above_one zero (suc n) above = omega (arith, pow-suc 0 n)
base_above_one (suc zero) n above = omega (arith, pow-of_one n)
base_above_one (suc (suc x)) n above = omega arith

root_above_one : (x : ℕ) → 1 < x * x → 1 < x
root_above_one zero above = omega arith
root_above_one (suc zero) above = omega arith
root_above_one (suc (suc x)) above = omega arith

twice_below_product : (x y : ℕ) → 1 < y → x + x ≤ x * y
twice_below_product x y above = omega (arith, mul-le-mul_left x above)

grown : (x h n : ℕ) → h < n → 1 < x → x ^ h + x ^ h ≤ x ^ n
grown x h n less above =
    let once : x ^ h + x ^ h ≤ x ^ suc h = omega (arith, pow-suc x h, twice_below_product (x ^ h) x above) in
    let rest : x ^ suc h ≤ x ^ n = pow-le-pow_right (omega arith) less in
    omega arith

-- the power doesn't fit where the one at half the exponent doesn't
pub half_wide : (a : ℤ) (n : ℕ) → 0 < n → (FitsSigned w128 (power a (n / 2)) → ⊥) → FitsSigned w128 (power a n) → ⊥
half_wide a n above wide =
    let large : 2 ^ 127 ≤ unsigned_abs a ^ (n / 2) = omega (arith, large_from_wide (power a (n / 2)) wide, unsigned_abs-power a (n / 2)) in
    let base : 1 < unsigned_abs a = base_above_one (unsigned_abs a) (n / 2) (omega arith) in
    wide_from_large (power a n) (omega (arith, unsigned_abs-power a n, grown (unsigned_abs a) (n / 2) n (omega arith) base))

-- nor where the square of that one doesn't
pub square_wide : (a : ℤ) (n r : ℕ) → n % 2 ≡ r → (FitsSigned w128 (power a (n / 2) *ℤ power a (n / 2)) → ⊥) → FitsSigned w128 (power a n) → ⊥
square_wide a n zero even wide fits = wide (subst (FitsSigned w128) (power-even a n even) fits)
square_wide a n (suc r) odd wide fits =
    let half = power a (n / 2) in
    let large : 2 ^ 127 ≤ unsigned_abs (half *ℤ half) = large_from_wide (half *ℤ half) wide in
    let root : 1 < unsigned_abs half = root_above_one (unsigned_abs half) (omega (arith, unsigned_abs-mul half half)) in
    let base : 1 < unsigned_abs a = base_above_one (unsigned_abs a) (n / 2) (omega (arith, unsigned_abs-power a (n / 2))) in
    let product : unsigned_abs (power a n) ≡ unsigned_abs (half *ℤ half) * unsigned_abs a = ap unsigned_abs (power-odd a n (omega arith)) ∙ unsigned_abs-mul (half *ℤ half) a in
    wide_from_large (power a n) (omega (arith, product, twice_below_product (unsigned_abs (half *ℤ half)) (unsigned_abs a) base)) fits

-- ---- what the code answers at base a and exponent n, where h is its answer at half the exponent, and s the square of h

none_from : (o : Option ℤ) (P : Type 0) (v : ℤ) → o ≡ None → (P → ⊥) → SomeIff o P v
none_from o P v e not_p = subst (λ (x : Option ℤ). SomeIff x P v) (sym e) not_p

pub answered_zero : (a : ℤ) (n : ℕ) → n ≡ 0 → FitsSigned w128 (power a n) × (pos 1 ≡ power a n)
answered_zero a n e =
    let one : power a n ≡ pos 1 = ap (power a) e ∙ power-zero a in
    (subst (FitsSigned w128) (sym one) (record { sfits = omega arith }), sym one)

pub answered_no_half : (a : ℤ) (n : ℕ) (o : Option ℤ) → FitsSigned w128 a → (n ≡ 0 → ⊥) → (FitsSigned w128 (power (to_z w128 (of_z w128 a)) (n / 2)) → ⊥) → o ≡ None → SomeIff o (FitsSigned w128 (power a n)) (power a n)
answered_no_half a n o fits above wide e = none_from o _ _ e (half_wide a n (omega arith) (rw (to_z-of_z w128 a fits) at wide))

half_of : (a : ℤ) (m : ℕ) (h : ℤ) → FitsSigned w128 a → FitsSigned w128 (power (to_z w128 (of_z w128 a)) m) × (h ≡ power (to_z w128 (of_z w128 a)) m) → (to_z w128 (of_z w128 h) ≡ power a m)
half_of a m h fits half =
    let at_a : FitsSigned w128 (power a m) × (h ≡ power a m) = rw (to_z-of_z w128 a fits) at half in
    to_z-of_z w128 h (subst (FitsSigned w128) (sym at_a.1) at_a.0) ∙ at_a.1

pub answered_no_square : (a : ℤ) (n : ℕ) (h : ℤ) (o : Option ℤ) → FitsSigned w128 a → FitsSigned w128 (power (to_z w128 (of_z w128 a)) (n / 2)) × (h ≡ power (to_z w128 (of_z w128 a)) (n / 2)) → (FitsSigned w128 (to_z w128 (of_z w128 h) *ℤ to_z w128 (of_z w128 h)) → ⊥) → o ≡ None → SomeIff o (FitsSigned w128 (power a n)) (power a n)
answered_no_square a n h o fits half wide e =
    none_from o _ _ e (square_wide a n (n % 2) refl (subst (λ (x : ℤ). FitsSigned w128 (x *ℤ x) → ⊥) (half_of a (n / 2) h fits half) wide))

square_of : (a : ℤ) (n : ℕ) (h s : ℤ) → FitsSigned w128 a → FitsSigned w128 (power (to_z w128 (of_z w128 a)) (n / 2)) × (h ≡ power (to_z w128 (of_z w128 a)) (n / 2)) → FitsSigned w128 (to_z w128 (of_z w128 h) *ℤ to_z w128 (of_z w128 h)) × (s ≡ to_z w128 (of_z w128 h) *ℤ to_z w128 (of_z w128 h)) → (to_z w128 (of_z w128 s) ≡ power a (n / 2) *ℤ power a (n / 2))
square_of a n h s fits half square =
    to_z-of_z w128 s (subst (FitsSigned w128) (sym square.1) square.0) ∙ square.1 ∙ ap (λ (x : ℤ). x *ℤ x) (half_of a (n / 2) h fits half)

pub answered_even : (a : ℤ) (n : ℕ) (h s : ℤ) → FitsSigned w128 a → FitsSigned w128 (power (to_z w128 (of_z w128 a)) (n / 2)) × (h ≡ power (to_z w128 (of_z w128 a)) (n / 2)) → FitsSigned w128 (to_z w128 (of_z w128 h) *ℤ to_z w128 (of_z w128 h)) × (s ≡ to_z w128 (of_z w128 h) *ℤ to_z w128 (of_z w128 h)) → n % 2 ≡ 0 → FitsSigned w128 (power a n) × (to_z w128 (of_z w128 s) ≡ power a n)
answered_even a n h s fits half square even =
    let same : to_z w128 (of_z w128 h) *ℤ to_z w128 (of_z w128 h) ≡ power a n = ap (λ (x : ℤ). x *ℤ x) (half_of a (n / 2) h fits half) ∙ sym (power-even a n even) in
    (subst (FitsSigned w128) same square.0, square_of a n h s fits half square ∙ sym (power-even a n even))

pub answered_odd : (a : ℤ) (n : ℕ) (h s : ℤ) (o : Option ℤ) → FitsSigned w128 a → FitsSigned w128 (power (to_z w128 (of_z w128 a)) (n / 2)) × (h ≡ power (to_z w128 (of_z w128 a)) (n / 2)) → FitsSigned w128 (to_z w128 (of_z w128 h) *ℤ to_z w128 (of_z w128 h)) × (s ≡ to_z w128 (of_z w128 h) *ℤ to_z w128 (of_z w128 h)) → (n % 2 ≡ 0 → ⊥) → SomeIff o (FitsSigned w128 (to_z w128 (of_z w128 s) *ℤ to_z w128 (of_z w128 a))) (to_z w128 (of_z w128 s) *ℤ to_z w128 (of_z w128 a)) → SomeIff o (FitsSigned w128 (power a n)) (power a n)
answered_odd a n h s o fits half square odd product =
    let same : to_z w128 (of_z w128 s) *ℤ to_z w128 (of_z w128 a) ≡ power a n = (λ i. square_of a n h s fits half square i *ℤ to_z-of_z w128 a fits i) ∙ sym (power-odd a n odd) in
    subst (λ (x : ℤ). SomeIff o (FitsSigned w128 x) x) same product
