-- Numbers as a block holds them, each below 2 ^ 59.
use Rattle.std.specs.Prelude.{◌≡◌, ℕ, suc, ◌+◌, ◌-◌, ◌*◌, ◌/◌, ◌%◌, ◌^◌, ◌<◌, ℤ, pos, negsuc, ◌-ℤ◌}

-- an integer is moved up by 2 ^ 57; those from -2 ^ 57 to 2 ^ 57 - 1 are told apart
abbrev pub IsMovable : ℤ → Type 0
IsMovable (pos n) = n < 2 ^ 57
IsMovable (negsuc n) = n < 2 ^ 57

abbrev pub moved_up : ℤ → ℕ
moved_up (pos n) = (2 ^ 57 + n) % 2 ^ 58
moved_up (negsuc n) = 2 ^ 57 - suc n

abbrev pub moved_down : ℕ → ℤ
moved_down number = pos number -ℤ pos (2 ^ 57)

-- a number of 64 bits in two halves
abbrev pub first_half : ℕ → ℕ
first_half n = n / 2 ^ 32

abbrev pub second_half : ℕ → ℕ
second_half n = n % 2 ^ 32

abbrev pub whole : ℕ → ℕ → ℕ
whole first second = first % 2 ^ 32 * 2 ^ 32 + second % 2 ^ 32

abbrev pub MovedComeBack : Type 0
MovedComeBack = (n : ℤ) → IsMovable n → moved_down (moved_up n) ≡ n

abbrev pub HalvesAreWhole : Type 0
HalvesAreWhole = (n : ℕ) → n < 2 ^ 64 → whole (first_half n) (second_half n) ≡ n
