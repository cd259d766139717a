-- For the reader alone: the numbers between points of any text.
use Rattle.std.specs.Prelude.{ℕ, ◌+◌, ◌-◌, ◌*◌, ◌^◌, ◌≤◌, ◌==◌, ◌&&◌, All, nat_lt, Bool, cond, List, [], ◌∷◌, length, take, drop, get_or}
use Rattle.pi_resume.specs.Token.{IsNumber, most_numbers}

abbrev pub with_digit : ℕ → ℕ → ℕ
with_digit value byte = cond (nat_lt (value * 10 + (byte - 48)) (2 ^ 64)) (value * 10 + (byte - 48)) (2 ^ 64 - 1)

-- behind so much of a number
unfoldable pub scanned_on : List ℕ → ℕ → List ℕ
scanned_on [] value = value ∷ []
scanned_on (b ∷ bs) value = cond (b == 46) (value ∷ scanned_on bs 0) (scanned_on bs (with_digit value b))

abbrev pub scanned : List ℕ → List ℕ
scanned text = cond (nat_lt (length text) 2) [] (scanned_on (drop 1 text) 0)

-- a text without a line feed at its end
abbrev pub ends_line : List ℕ → Bool
ends_line text = nat_lt 0 (length text) && (get_or text (length text - 1) 0 == 10)

abbrev pub without_feed : List ℕ → List ℕ
without_feed text = cond (ends_line text) (take (length text - 1) text) text

-- numbers that a token may name
pub record MayName (path : List ℕ) : Type 0 where
  pub long : length path ≤ most_numbers
  pub numbers : All IsNumber path
