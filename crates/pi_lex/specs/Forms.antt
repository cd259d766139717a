-- What stands between quotes, and what digits and signs are: `closing_place`, `unescaped`, `digits_end` and `sign_len` of
-- the definition find exactly these.
use Rattle.std.specs.Prelude.{◌≡◌, ◌≢◌, ℕ, ◌+◌, ◌<◌, ◌≤◌, Bool, true, false, ◌||◌, List, [], ◌∷◌, length, take, drop, slice_index, Some}
use Rattle.std.specs.Char.{is_digit}
use Rattle.pi_syntax.specs.Tokens.{is_one_of, line_feed, backslash, underscore, escaped, unescaped, goes_on, signs_of_four, signs_of_three, signs_of_two, signs_of_one}

-- Between quotes of this kind the characters stand for these: each for itself, save the quote, the backslash and the
-- line feed, and a backslash and an escape for what is meant.
pub data Spells : ℕ → List ℕ → List ℕ → Type 0 where
  nothing : {quote : ℕ} → Spells quote [] []
  plain : {quote : ℕ} {body meaning : List ℕ} (c : ℕ) → c ≢ quote → c ≢ line_feed → c ≢ backslash → Spells quote body meaning
      → Spells quote (c ∷ body) (c ∷ meaning)
  escape : {quote : ℕ} {body meaning : List ℕ} (c d : ℕ) → escaped c ≡ Some d → Spells quote body meaning
      → Spells quote (backslash ∷ c ∷ body) (d ∷ meaning)

-- One digit of the base or more, with at most one `_` between two of them.
pub data IsDigits : ℕ → List ℕ → Type 0 where
  last : {radix : ℕ} (c : ℕ) → is_digit c radix ≡ true → IsDigits radix (c ∷ [])
  digit : {radix : ℕ} {digits : List ℕ} (c : ℕ) → is_digit c radix ≡ true → IsDigits radix digits → IsDigits radix (c ∷ digits)
  underscored : {radix : ℕ} {digits : List ℕ} (c : ℕ) → is_digit c radix ≡ true → IsDigits radix digits
      → IsDigits radix (c ∷ underscore ∷ digits)

-- what is found at this place is the quote that closes: the characters up to it spell what is meant
abbrev pub IsClosed : ℕ → ℕ → List ℕ → ℕ → Type 0
IsClosed quote place text found =
    (n : ℕ) × (found ≡ place + n) × Spells quote (take n text) (unescaped false (take n text)) × (slice_index text n ≡ quote) × (n < length text)

-- what is found is digits, and no digit of the base goes on behind them
abbrev pub EndsDigits : ℕ → ℕ → List ℕ → ℕ → Type 0
EndsDigits radix place text found =
    (n : ℕ) × (found ≡ place + n) × IsDigits radix (take n text) × (goes_on radix (drop n text) ≡ false) × (n ≤ length text)

abbrev pub is_sign : List ℕ → Bool
is_sign sign =
    ((is_one_of signs_of_four sign || is_one_of signs_of_three sign) || is_one_of signs_of_two sign) || is_one_of signs_of_one sign
