-- The values of a range lie between its bounds: each has 128 bits where these have.
use Rattle.std.proofs.Common.{◌≡◌, ℕ, zero, suc, ◌*◌, ◌/◌, ◌<◌, ◌≤◌, cond, Bool, true, false, refl, arith, tests}
use Rattle.std.specs.Prelude.{ℤ, pos, negsuc, ◌+ℤ◌, ◌*ℤ◌, neg_ℤ, int_le, FitsSigned}
use Rattle.std.specs.Int.{w128, int_gap}
use Rattle.std.proofs.lemmas.Int.{ints}
use Rattle.std.proofs.Math.Nat.{mul-le-mul_left}
use Rattle.pi_effects.specs.Range.{has_128_bits}
use Rattle.pi_effects.specs.Ranges.{count_by}

-- ---- 128 bits, as a test and as a fact

pub bits-fit : (z : ℤ) → FitsSigned w128 z → has_128_bits z ≡ true
bits-fit z fits = grind (arith, ints, fits)

pub fits-bits : (z : ℤ) → has_128_bits z ≡ true → FitsSigned w128 z
fits-bits z bits = grind (arith, ints, tests, bits)

-- ---- values

up-to : (low high : ℤ) → int_le low high ≡ true → low +ℤ pos (int_gap low high) ≡ high
up-to (pos a) (pos b) h = omega (arith, ints)
up-to (pos a) (negsuc b) h = cc
up-to (negsuc a) (pos b) h = omega (arith, ints)
up-to (negsuc a) (negsuc b) h = omega (arith, ints)

between : (low high : ℤ) (m : ℕ) → FitsSigned w128 low → FitsSigned w128 high → int_le low high ≡ true → m ≤ int_gap low high → FitsSigned w128 (low +ℤ pos m)
between low high m f g h few = let up : low +ℤ pos (int_gap low high) ≡ high = up-to low high h in omega (arith, ints)

below : (low high : ℤ) (m : ℕ) → FitsSigned w128 low → FitsSigned w128 high → int_le high low ≡ true → m ≤ int_gap high low → FitsSigned w128 (low +ℤ neg_ℤ (pos m))
below low high m f g h few = let down : high +ℤ pos (int_gap high low) ≡ low = up-to high low h in omega (arith, ints)

quotient : (k g n : ℕ) → k < suc (g / suc n) → k * suc n ≤ g
quotient k g n h = let few : k ≤ g / suc n = omega arith in omega (arith, mul-le-mul_left (suc n) few)

in-range : (c : Bool) (k q : ℕ) → k < cond c (suc q) 0 → (c ≡ true) × (k < suc q)
in-range true k q h = (refl, h)
in-range false k q h = absurd (omega arith)

pub value-fits : (low step high : ℤ) → FitsSigned w128 low → FitsSigned w128 high → (k : ℕ) → k < count_by low step high → FitsSigned w128 (low +ℤ (pos k *ℤ step))
value-fits low (pos zero) high f g k h = absurd (omega arith)
value-fits low (pos (suc n)) high f g k h =
    let there = in-range (int_le low high) k (int_gap low high / suc n) h in
    between low high (k * suc n) f g there.0 (quotient k (int_gap low high) n there.1)
value-fits low (negsuc n) high f g k h =
    let there = in-range (int_le high low) k (int_gap high low / suc n) h in
    below low high (k * suc n) f g there.0 (quotient k (int_gap high low) n there.1)
