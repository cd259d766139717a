-- Whole numbers in two's complement, without a last bit: a number that isn't negative goes on in zeros, a negative one in ones.
use Rattle.std.specs.Prelude.{ℕ, ◌-◌, ℤ, pos, negsuc, bit_and, bit_or, bit_xor}
use Rattle.std.specs.Int.{bit_at}

-- bit i of a number: -(n + 1) has a 1 exactly where n has a 0
abbrev pub bit_of : ℤ → ℕ → ℕ
bit_of (pos n) i = bit_at n i
bit_of (negsuc n) i = 1 - bit_at n i

-- the number with a 1 exactly where z has a 0
abbrev pub complement : ℤ → ℤ
complement (pos n) = negsuc n
complement (negsuc n) = pos n

-- the bits of m that n lacks
abbrev pub bits_without : ℕ → ℕ → ℕ
bits_without m n = bit_xor m (bit_and m n)

-- the bits that both numbers have
abbrev pub bits_and : ℤ → ℤ → ℤ
bits_and (pos m) (pos n) = pos (bit_and m n)
bits_and (pos m) (negsuc n) = pos (bits_without m n)
bits_and (negsuc m) (pos n) = pos (bits_without n m)
bits_and (negsuc m) (negsuc n) = negsuc (bit_or m n)

-- the bits that one of the numbers has, or both
abbrev pub bits_or : ℤ → ℤ → ℤ
bits_or (pos m) (pos n) = pos (bit_or m n)
bits_or (pos m) (negsuc n) = negsuc (bits_without n m)
bits_or (negsuc m) (pos n) = negsuc (bits_without m n)
bits_or (negsuc m) (negsuc n) = negsuc (bit_and m n)

-- the bits that exactly one of the numbers has
abbrev pub bits_xor : ℤ → ℤ → ℤ
bits_xor (pos m) (pos n) = pos (bit_xor m n)
bits_xor (pos m) (negsuc n) = negsuc (bit_xor m n)
bits_xor (negsuc m) (pos n) = negsuc (bit_xor m n)
bits_xor (negsuc m) (negsuc n) = pos (bit_xor m n)
