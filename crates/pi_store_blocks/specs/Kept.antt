-- What is so of each word of a table, now and at each length that the region had.
use Rattle.std.specs.Prelude.{ℕ, slice_index}
use Rattle.pi_region.specs.Image.{Image, table_in}
use Rattle.pi_region.specs.Back.{at_length}
use Rattle.pi_region.specs.declared.entry.Table.{Table}
use Rattle.pi_store_blocks.specs.Heap.{Heap, Grows}
use Rattle.pi_store_blocks.specs.Past.{NamesAt, past_of}

-- the words of a table are such, each in the heap of its moment; 0 past the end is one
pub record AreKept (P : Heap → ℕ → Type 0) (t : Table) (names : NamesAt) (i : Image) : Type 0 where
  pub at : (len n : ℕ) → P (past_of names i len) (slice_index (table_in (at_length len i) t) n)

-- such a word is one still when there is more
abbrev pub Stays : (Heap → ℕ → Type 0) → Type 0
Stays P = (h k : Heap) → Grows h k → (w : ℕ) → P h w → P k w
