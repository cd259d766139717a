-- Terms of sums as numbers: the coefficient, moved up, and the variable.
use Rattle.std.specs.Prelude.{ℕ, ◌+◌, ◌%◌, ◌^◌, ℤ, List, [], ◌∷◌, slice_index}
use Rattle.pi_store_blocks.specs.Numbers.{moved_up, moved_down}

abbrev pub term_numbers : List (ℤ × ℕ) → List ℕ
term_numbers [] = []
term_numbers ((c, n) ∷ terms) = moved_up c ∷ (n % 2 ^ 59) ∷ term_numbers terms

-- the terms that numbers say; a last one alone is none
abbrev pub terms_of : List ℕ → List (ℤ × ℕ)
terms_of [] = []
terms_of (c ∷ []) = []
terms_of (c ∷ n ∷ rest) = (moved_down c, n) ∷ terms_of rest

-- the term of two numbers that stand together from a place on
abbrev pub term_at : List ℕ → ℕ → ℤ × ℕ
term_at numbers at = (moved_down (slice_index numbers at), slice_index numbers (at + 1))
