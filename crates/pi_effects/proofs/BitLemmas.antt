-- Bits of whole numbers in two's complement, and of the 128 bits that the code works on.
use Rattle.std.proofs.Common.{◌≡◌, ℕ, suc, ◌+◌, ◌-◌, ◌%◌, ◌^◌, ◌<◌, min, max, ℤ, pos, negsuc, bit_and, bit_or, bit_xor, FitsSigned, to_z, of_z, refl, sym, ap, ◌∙◌, arith}
use Rattle.std.specs.Int.{w128, bit_at}
use Rattle.std.proofs.lemmas.Int.{to_z-of_z}
use Rattle.std.proofs.lemmas.Nat.{and_le_l, or_lt, xor_lt}
use Rattle.std.proofs.lemmas.Nat.Bits.{bit_at_and, bit_at_or, bit_at_xor, bit_at-lt, bit_at_not, same_from_bits_below}
use Rattle.pi_effects.specs.Bits.{bit_of, bits_without, bits_and, bits_or, bits_xor}

-- ---- the bits of each operation

without_digit : (x y : ℕ) → x < 2 → y < 2 → (x + min x y) % 2 ≡ min x (1 - y)
without_digit x y p q = grind arith

bit_at-without : (m n i : ℕ) → bit_at (bits_without m n) i ≡ min (bit_at m i) (1 - bit_at n i)
bit_at-without m n i =
    bit_at_xor m (bit_and m n) i ∙ ap (λ (x : ℕ). (bit_at m i + x) % 2) (bit_at_and m n i)
    ∙ without_digit (bit_at m i) (bit_at n i) (bit_at-lt m i) (bit_at-lt n i)

pub bit_of-and : (a b : ℤ) (i : ℕ) → bit_of (bits_and a b) i ≡ min (bit_of a i) (bit_of b i)
bit_of-and (pos m) (pos n) i = bit_at_and m n i
bit_of-and (pos m) (negsuc n) i = bit_at-without m n i
bit_of-and (negsuc m) (pos n) i = bit_at-without n m i ∙ omega arith
bit_of-and (negsuc m) (negsuc n) i = ap (λ (x : ℕ). 1 - x) (bit_at_or m n i) ∙ omega arith

pub bit_of-or : (a b : ℤ) (i : ℕ) → bit_of (bits_or a b) i ≡ max (bit_of a i) (bit_of b i)
bit_of-or (pos m) (pos n) i = bit_at_or m n i
bit_of-or (pos m) (negsuc n) i = ap (λ (x : ℕ). 1 - x) (bit_at-without n m i) ∙ omega (arith, bit_at-lt m i, bit_at-lt n i)
bit_of-or (negsuc m) (pos n) i = ap (λ (x : ℕ). 1 - x) (bit_at-without m n i) ∙ omega (arith, bit_at-lt m i, bit_at-lt n i)
bit_of-or (negsuc m) (negsuc n) i = ap (λ (x : ℕ). 1 - x) (bit_at_and m n i) ∙ omega arith

pub bit_of-xor : (a b : ℤ) (i : ℕ) → bit_of (bits_xor a b) i ≡ (bit_of a i + bit_of b i) % 2
bit_of-xor (pos m) (pos n) i = bit_at_xor m n i
bit_of-xor (pos m) (negsuc n) i = ap (λ (x : ℕ). 1 - x) (bit_at_xor m n i) ∙ flipped (bit_at m i) (bit_at n i) (bit_at-lt m i) (bit_at-lt n i)
  where
    flipped : (x y : ℕ) → x < 2 → y < 2 → 1 - (x + y) % 2 ≡ (x + (1 - y)) % 2
    flipped x y p q = omega arith
bit_of-xor (negsuc m) (pos n) i = ap (λ (x : ℕ). 1 - x) (bit_at_xor m n i) ∙ flipped (bit_at m i) (bit_at n i) (bit_at-lt m i) (bit_at-lt n i)
  where
    flipped : (x y : ℕ) → x < 2 → y < 2 → 1 - (x + y) % 2 ≡ (1 - x + y) % 2
    flipped x y p q = omega arith
bit_of-xor (negsuc m) (negsuc n) i = bit_at_xor m n i ∙ flipped (bit_at m i) (bit_at n i) (bit_at-lt m i) (bit_at-lt n i)
  where
    flipped : (x y : ℕ) → x < 2 → y < 2 → (x + y) % 2 ≡ (1 - x + (1 - y)) % 2
    flipped x y p q = omega arith

-- ---- the 128 bits of a number that fits

bit_at-of_z : (z : ℤ) (i : ℕ) → FitsSigned w128 z → i < 128 → bit_at (of_z w128 z) i ≡ bit_of z i
bit_at-of_z (pos n) i fits within = refl
bit_at-of_z (negsuc n) i fits within =
    let same : 2 ^ 128 - suc n ≡ 2 ^ 128 - 1 - n = omega arith in
    ap (λ (x : ℕ). bit_at x i) same ∙ bit_at_not w128 n i (omega (arith, fits.sfits)) within

pub of_z-lt : (z : ℤ) → FitsSigned w128 z → of_z w128 z < 2 ^ 128
of_z-lt (pos n) fits = omega (arith, fits.sfits)
of_z-lt (negsuc n) fits = omega (arith, fits.sfits)

-- the number z is what the bits m say
pub to_z_from_bits : (m : ℕ) (z : ℤ) → m < 2 ^ 128 → FitsSigned w128 z → ((i : ℕ) → i < 128 → bit_at m i ≡ bit_of z i) → to_z w128 m ≡ z
to_z_from_bits m z below fits same =
    ap (to_z w128) (same_from_bits_below 128 m (of_z w128 z) below (of_z-lt z fits) (λ i within. same i within ∙ sym (bit_at-of_z z i fits within)))
    ∙ to_z-of_z w128 z fits

without-lt : (m n : ℕ) → m < 2 ^ 127 → bits_without m n < 2 ^ 127
without-lt m n p = xor_lt 127 m (bit_and m n) p (omega (arith, and_le_l m n))

fits_and : (a b : ℤ) → FitsSigned w128 a → FitsSigned w128 b → FitsSigned w128 (bits_and a b)
fits_and (pos m) (pos n) f g = record { sfits = omega (arith, and_le_l m n, f.sfits) }
fits_and (pos m) (negsuc n) f g = record { sfits = without-lt m n f.sfits }
fits_and (negsuc m) (pos n) f g = record { sfits = without-lt n m g.sfits }
fits_and (negsuc m) (negsuc n) f g = record { sfits = or_lt 127 m n f.sfits g.sfits }

fits_or : (a b : ℤ) → FitsSigned w128 a → FitsSigned w128 b → FitsSigned w128 (bits_or a b)
fits_or (pos m) (pos n) f g = record { sfits = or_lt 127 m n f.sfits g.sfits }
fits_or (pos m) (negsuc n) f g = record { sfits = without-lt n m g.sfits }
fits_or (negsuc m) (pos n) f g = record { sfits = without-lt m n f.sfits }
fits_or (negsuc m) (negsuc n) f g = record { sfits = omega (arith, and_le_l m n, f.sfits) }

fits_xor : (a b : ℤ) → FitsSigned w128 a → FitsSigned w128 b → FitsSigned w128 (bits_xor a b)
fits_xor (pos m) (pos n) f g = record { sfits = xor_lt 127 m n f.sfits g.sfits }
fits_xor (pos m) (negsuc n) f g = record { sfits = xor_lt 127 m n f.sfits g.sfits }
fits_xor (negsuc m) (pos n) f g = record { sfits = xor_lt 127 m n f.sfits g.sfits }
fits_xor (negsuc m) (negsuc n) f g = record { sfits = xor_lt 127 m n f.sfits g.sfits }

pub and_is : (a b : ℤ) → FitsSigned w128 a → FitsSigned w128 b → to_z w128 (bit_and (of_z w128 a) (of_z w128 b)) ≡ bits_and a b
and_is a b f g =
    to_z_from_bits _ _ (omega (arith, and_le_l (of_z w128 a) (of_z w128 b), of_z-lt a f)) (fits_and a b f g)
    (λ i within. bit_at_and (of_z w128 a) (of_z w128 b) i ∙ (λ j. min (bit_at-of_z a i f within j) (bit_at-of_z b i g within j)) ∙ sym (bit_of-and a b i))

pub or_is : (a b : ℤ) → FitsSigned w128 a → FitsSigned w128 b → to_z w128 (bit_or (of_z w128 a) (of_z w128 b)) ≡ bits_or a b
or_is a b f g =
    to_z_from_bits _ _ (or_lt 128 (of_z w128 a) (of_z w128 b) (of_z-lt a f) (of_z-lt b g)) (fits_or a b f g)
    (λ i within. bit_at_or (of_z w128 a) (of_z w128 b) i ∙ (λ j. max (bit_at-of_z a i f within j) (bit_at-of_z b i g within j)) ∙ sym (bit_of-or a b i))

pub xor_is : (a b : ℤ) → FitsSigned w128 a → FitsSigned w128 b → to_z w128 (bit_xor (of_z w128 a) (of_z w128 b)) ≡ bits_xor a b
xor_is a b f g =
    to_z_from_bits _ _ (xor_lt 128 (of_z w128 a) (of_z w128 b) (of_z-lt a f) (of_z-lt b g)) (fits_xor a b f g)
    (λ i within. bit_at_xor (of_z w128 a) (of_z w128 b) i ∙ (λ j. (bit_at-of_z a i f within j + bit_at-of_z b i g within j) % 2) ∙ sym (bit_of-xor a b i))
