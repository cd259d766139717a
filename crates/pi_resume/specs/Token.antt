-- The text of a path, which names an answer: `p`, and the path's numbers in decimal from 1 on, parted by points. (Own.)
use Rattle.std.specs.Prelude.{◌≡◌, ◌⊎◌, ℕ, ◌<◌, ◌≤◌, ◌^◌, List, [], ◌∷◌, ◌++◌, length, All}
use Rattle.std.specs.Fmt.{decimal}

-- numbers, each behind a point
unfoldable pub later_numbers : List ℕ → List ℕ
later_numbers [] = []
later_numbers (n ∷ ns) = 46 ∷ decimal n ++ later_numbers ns

abbrev pub numbers_text : List ℕ → List ℕ
numbers_text [] = []
numbers_text (n ∷ ns) = decimal n ++ later_numbers ns

abbrev pub token : List ℕ → List ℕ
token path = 112 ∷ numbers_text path

-- a number of a path
abbrev pub IsNumber : ℕ → Type 0
IsNumber n = (0 < n) × (n < 2 ^ 64)

abbrev pub most_numbers : ℕ
most_numbers = 524288

-- A text names a path: it is the path's, and may have a line feed at the end.
pub record IsToken (text path : List ℕ) : Type 0 where
  pub numbers : All IsNumber path
  pub long : length path ≤ most_numbers
  pub is_text : (text ≡ token path) ⊎ (text ≡ token path ++ 10 ∷ [])
