-- Which tokens are too many, and which expression too deep, for a reader that nests with them. The numbers are own.
use Rattle.std.specs.Prelude.{ℕ, ◌+◌, ◌<◌, ◌≤◌, Bool, false, List, [], ◌∷◌, take, count_by, codes, ◌⊎◌}
use Rattle.pi_syntax.specs.Tokens.{is_one_of, Token, Word, Sign}
use Rattle.pi_syntax.specs.ExpTree.{ExpTree, levels}
use Rattle.pi_syntax.specs.Grammar.{HasExp}

-- the most levels of an expression, the most open brackets at a place, and the most words `if`, `foreach`, `while`, `do`
abbrev pub most_levels : ℕ
most_levels = 1_000

abbrev pub most_open : ℕ
most_open = 1_000

abbrev pub most_block_words : ℕ
most_block_words = 1_000

-- a sign, or a word, of these spellings
abbrev pub is_sign_of : List (List ℕ) → Token → Bool
is_sign_of signs (Sign sign) = is_one_of signs sign
is_sign_of signs _ = false

abbrev pub is_word_of : List (List ℕ) → Token → Bool
is_word_of words (Word word) = is_one_of words word
is_word_of words _ = false

unfoldable pub is_opening : Token → Bool
is_opening token = is_sign_of (codes "(" ∷ codes "[" ∷ codes "{" ∷ []) token

unfoldable pub is_closing : Token → Bool
is_closing token = is_sign_of (codes ")" ∷ codes "]" ∷ codes "}" ∷ []) token

unfoldable pub is_block_word : Token → Bool
is_block_word token = is_word_of (codes "if" ∷ codes "foreach" ∷ codes "while" ∷ codes "do" ∷ []) token

-- the first n tokens have over 1,000 more opening brackets than closing ones
abbrev pub OpensTooMany : List Token → ℕ → Type 0
OpensTooMany tokens n = count_by is_closing (take n tokens) + most_open < count_by is_opening (take n tokens)

-- A front of the tokens opens too many brackets, or more than 1,000 words `if`, `foreach`, `while` and `do` stand
-- among them.
abbrev pub IsCrowded : List Token → Type 0
IsCrowded tokens = ((n : ℕ) × OpensTooMany tokens n) ⊎ (most_block_words < count_by is_block_word tokens)

-- What reading tokens gives: an expression, too much, or none.

abbrev pub IsRead : List Token → ExpTree → Type 0
IsRead tokens e = HasExp tokens e × (¬ IsCrowded tokens) × (levels e ≤ most_levels)

abbrev pub IsTooDeep : List Token → Type 0
IsTooDeep tokens = IsCrowded tokens ⊎ ((e : ExpTree) × HasExp tokens e × (most_levels < levels e))

abbrev pub HasNoExp : List Token → Type 0
HasNoExp tokens = (¬ IsCrowded tokens) × ((e : ExpTree) → ¬ HasExp tokens e)

-- Each two of these exclude each other.
abbrev pub ReadIsOne : Type 0
ReadIsOne = (tokens : List Token) → (e : ExpTree) → IsRead tokens e → (¬ IsTooDeep tokens) × (¬ HasNoExp tokens)

abbrev pub TooDeepIsNoNone : Type 0
TooDeepIsNoNone = (tokens : List Token) → IsTooDeep tokens → ¬ HasNoExp tokens
