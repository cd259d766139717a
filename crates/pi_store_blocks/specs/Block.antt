-- Blocks of numbers in a region: each number as a word that says nothing by itself, and behind them how many they are.
use Rattle.std.specs.Prelude.{◌≡◌, ℕ, zero, suc, ◌-◌, ◌<◌, ◌≤◌, List, [], ◌∷◌, ◌++◌, length, map, take, drop, slice_index}
use Rattle.pi_region.specs.Entry.{data_of, value_of}
use Rattle.pi_region.specs.Image.{Image, appended}
use Rattle.pi_region.specs.Back.{Advances, at_length}
use Rattle.pi_store_blocks.specs.Heap.{Heap}
use Rattle.pi_store_blocks.specs.Placed.{IsWordIn}

-- the words of a block
abbrev pub block_of : List ℕ → List ℕ
block_of numbers = map data_of numbers ++ data_of (length numbers) ∷ []

-- so many numbers from a place on
abbrev pub numbers_in : List ℕ → ℕ → ℕ → List ℕ
numbers_in words start count = map value_of (take count (drop start words))

-- the numbers of the block whose last word stands at a place: it says how many stand below it
abbrev pub block_closed_at : List ℕ → ℕ → List ℕ
block_closed_at words last = let start = last - value_of (slice_index words last) in numbers_in words start (last - start)

-- the numbers of the block that ends at a place; none where no word stands below it
abbrev pub block_at : List ℕ → ℕ → List ℕ
block_at words zero = []
block_at words (suc last) = block_closed_at words last

-- what was there when the region ended at a place
pub record IsBefore (before : Image) (start : ℕ) : Type 0 where
  pub trail : before.trail ≤ length before.region
  pub at : start ≡ length before.region

-- a block of these numbers at the end of the region, and nothing else; it ends where the region does
pub record Writes (old new : Image) (numbers : List ℕ) (place : ℕ) : Type 0 where
  pub words : new ≡ appended old (block_of numbers)
  pub end : place ≡ length new.region
  pub advances : Advances old new

-- what was written reads back
abbrev pub BlocksReadBack : Type 0
BlocksReadBack = (old new : Image) (numbers : List ℕ) (end : ℕ) → Writes old new numbers end → block_at new.region end ≡ numbers

-- and is the same behind whatever changes follow
abbrev pub BlocksOutlast : Type 0
BlocksOutlast = (old new : Image) (end : ℕ) → Advances old new → end ≤ length old.region → block_at new.region end ≡ block_at old.region end

-- and after a return to where it was there
abbrev pub BlocksComeBack : Type 0
BlocksComeBack = (len end : ℕ) (i : Image) → end ≤ len → end ≤ length i.region → block_at (at_length len i).region end ≡ block_at i.region end

-- each word of a block may be written behind any words: it is no Ref, and says nothing of the words below it
abbrev pub BlocksSayNothing : Type 0
BlocksSayNothing = (h : Heap) (numbers : List ℕ) (n : ℕ) → n < length (block_of numbers) → IsWordIn h (slice_index (block_of numbers) n)
