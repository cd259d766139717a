-- The absolute values of the numbers between two ends.
use Rattle.std.specs.Prelude.{ℤ, pos, neg_ℤ, ◌≤ℤ◌}
use Rattle.std.specs.Int.{int_max}
use Rattle.std.proofs.Common.{arith}
use Rattle.std.proofs.lemmas.Int.{ints, clamps, by_lt_z}
use Rattle.pi_prop_spec.specs.Rules.{magnitude}

pub least_size : (lo hi u n : ℤ) → lo ≤ℤ u → u ≤ℤ hi → magnitude u ≤ℤ n → int_max (int_max lo (neg_ℤ hi)) (pos 0) ≤ℤ n
least_size lo hi u n h k m = omega (arith, ints, clamps)

pub greatest_size : (lo hi u n : ℤ) → lo ≤ℤ u → u ≤ℤ hi → n ≤ℤ magnitude u → n ≤ℤ int_max (neg_ℤ lo) hi
greatest_size lo hi u n h k m = omega (arith, ints, clamps)

size_at_most : (u n : ℤ) → u ≤ℤ n → neg_ℤ u ≤ℤ n → magnitude u ≤ℤ n
size_at_most u n h k = omega (arith, ints)

below_size : (u : ℤ) → u ≤ℤ magnitude u
below_size u = omega (arith, ints)

negative_below_size : (u : ℤ) → neg_ℤ u ≤ℤ magnitude u
negative_below_size u = omega (arith, ints)

abbrev pub Within : ℤ → ℤ → ℤ → Type 0
Within lo hi u = (lo ≤ℤ u) × (u ≤ℤ hi)

pub least_from : (lo hi n : ℤ) → lo ≤ℤ hi → int_max (int_max lo (neg_ℤ hi)) (pos 0) ≤ℤ n → (u : ℤ) × Within lo hi u × (magnitude u ≤ℤ n)
least_from lo hi n o h = by_lt_z (pos 0) lo
    (λ l. (lo, (omega (arith, ints), o), size_at_most lo n (omega (arith, ints, clamps)) (omega (arith, ints, clamps))))
    (λ l. by_lt_z hi (pos 0)
    (λ m. (hi, (o, omega (arith, ints)), size_at_most hi n (omega (arith, ints, clamps)) (omega (arith, ints, clamps))))
    (λ m. (pos 0, (l, m), omega (arith, ints, clamps))))

pub greatest_from : (lo hi n : ℤ) → lo ≤ℤ hi → n ≤ℤ int_max (neg_ℤ lo) hi → (u : ℤ) × Within lo hi u × (n ≤ℤ magnitude u)
greatest_from lo hi n o h = by_lt_z hi n
    (λ l. (lo, (omega (arith, ints), o), let m = negative_below_size lo in omega (arith, ints, clamps)))
    (λ l. (hi, (o, omega (arith, ints)), let m = below_size hi in omega (arith, ints)))
