-- What lists keep.
use Rattle.std.specs.Prelude.{◌≡◌, ◌⊎◌, ◌↔◌, ℕ, ◌<◌, ◌≤◌, length, slice_index}
use Rattle.pi_region.specs.Image.{Image}
use Rattle.pi_region.specs.Back.{Advances, at_length}
use Rattle.pi_store_blocks.specs.Heap.{Heap}
use Rattle.pi_store_blocks.specs.Placed.{IsWordIn}
use Rattle.pi_store_blocks.specs.Node.{node_of, IsListed, WritesNode}

-- the list of a node that was written has its number, and what its two lists have
abbrev pub ListsReadBack : Type 0
ListsReadBack = (old new : Image) (number first second end : ℕ) → WritesNode old new number first second end → first ≤ length old.region → second ≤ length old.region → (k : ℕ)
    → IsListed new.region end k ↔ ((k ≡ number) ⊎ (IsListed old.region first k ⊎ IsListed old.region second k))

-- a list has the same numbers behind whatever changes follow
abbrev pub ListsOutlast : Type 0
ListsOutlast = (old new : Image) (end : ℕ) → Advances old new → end ≤ length old.region → (k : ℕ) → IsListed new.region end k ↔ IsListed old.region end k

-- and after a return to where it was there
abbrev pub ListsComeBack : Type 0
ListsComeBack = (len end : ℕ) (i : Image) → end ≤ len → end ≤ length i.region → (k : ℕ) → IsListed (at_length len i).region end k ↔ IsListed i.region end k

-- each word of a node may be written behind any words: it is no Ref, and says nothing of the words below it
abbrev pub NodesSayNothing : Type 0
NodesSayNothing = (h : Heap) (number first second n : ℕ) → n < 3 → IsWordIn h (slice_index (node_of number first second) n)
