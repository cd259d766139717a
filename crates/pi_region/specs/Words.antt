-- What a region of words is.
use Rattle.std.specs.Prelude.{ℕ, ◌+◌, ◌-◌, ◌*◌, ◌^◌, ◌<◌, ◌≤◌, List, Option, Some, None, length, map, take, min}
use Rattle.pi_region.specs.Ownership.{IsWritten}

-- a region as its callers see it: its words, and how many more fit before it has to grow
pub record Region : Type 0 where
  pub words : List ℕ
  pub spare : ℕ

-- how many words the region's block has
abbrev pub block_len : Region → ℕ
block_len r = length r.words + r.spare

-- the most words that a block can have: it has fewer than 2 ^ 63 bytes, and a word has 8
abbrev pub most_words : ℕ
most_words = 2 ^ 60 - 1

-- a block that grew has at least twice the words, or the most that a block can have
abbrev pub HasDoubled : Region → Region → Type 0
HasDoubled old new = min (2 * block_len old) most_words ≤ block_len new

-- the word that a cell holds
abbrev pub word_of : Option ℕ → ℕ
word_of (Some w) = w
word_of None = 0

-- the words that the first n cells hold
abbrev pub written : ℕ → List (Option ℕ) → List ℕ
written n cells = map word_of (take n cells)

-- each of the first n cells holds a word
abbrev pub AreWritten : ℕ → List (Option ℕ) → Type 0
AreWritten n cells = (n ≤ length cells) × ((i : ℕ) → i < n → IsWritten cells i)
