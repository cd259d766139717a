-- Heads: how many activations were taken, and behind it where the list of each variable ends.
use Rattle.std.specs.Prelude.{◌≡◌, ℕ, suc, ◌<◌, length, slice_index}
use Rattle.pi_region.specs.Image.{Image, pushed, replaced}
use Rattle.pi_region.specs.declared.entry.Table.{Table}

abbrev pub taken_in : Image → ℕ
taken_in i = slice_index i.heads 0

-- 0 for a variable that has no list
abbrev pub list_end : Image → ℕ → ℕ
list_end i v = slice_index i.heads (suc v)

-- zeros more at the end of the heads, one after another
pub data Pads (i : Image) : Image → Type 0 where
  none_more : Pads i i
  one_more : {j : Image} → Pads i j → Pads i (pushed j Table.Heads 0)

-- another word for a head, behind zeros where there were fewer
pub record SetsHead (old new : Image) (place word : ℕ) : Type 0 where
  pub mid : Image
  pub padded : Pads old mid
  pub there : place < length mid.heads
  pub set : new ≡ replaced mid Table.Heads place word
