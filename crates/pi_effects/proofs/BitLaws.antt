-- A whole number is known by its bits.
use Rattle.std.proofs.Common.{◌≡◌, ℕ, zero, suc, ◌+◌, ◌^◌, ◌<◌, ℤ, pos, negsuc, sym, ap, arith}
use Rattle.std.specs.Int.{bit_at}
use Rattle.std.proofs.Math.Nat.{pow-suc}
use Rattle.std.proofs.lemmas.Nat.Bits.{bit_at-lt, bit_at_above, same_from_bits}
use Rattle.pi_effects.specs.Bits.{bit_of}

lt-pow : (n : ℕ) → n < 2 ^ n
lt-pow zero = omega arith
lt-pow (suc n) = omega (arith, pow-suc 2 n, lt-pow n)

-- far enough up, a number that isn't negative has zeros, and a negative one has ones
differ : (m n : ℕ) → ((i : ℕ) → bit_of (pos m) i ≡ bit_of (negsuc n) i) → ⊥
differ m n same =
    let zero_m : bit_at m (m + n) ≡ 0 = bit_at_above m m (m + n) (lt-pow m) (omega arith) in
    let zero_n : bit_at n (m + n) ≡ 0 = bit_at_above n n (m + n) (lt-pow n) (omega arith) in
    omega (arith, same (m + n))

pub same_from_bit_of : (a b : ℤ) → ((i : ℕ) → bit_of a i ≡ bit_of b i) → a ≡ b
same_from_bit_of (pos m) (pos n) same = ap pos (same_from_bits m n same)
same_from_bit_of (pos m) (negsuc n) same = absurd (differ m n same)
same_from_bit_of (negsuc m) (pos n) same = absurd (differ n m (λ i. sym (same i)))
same_from_bit_of (negsuc m) (negsuc n) same =
    ap negsuc (same_from_bits m n (λ i. omega (arith, same i, bit_at-lt m i, bit_at-lt n i)))
