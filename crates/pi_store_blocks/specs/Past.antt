-- The heaps that there were when the region had each length.
use Rattle.std.specs.Prelude.{◌≡◌, ℕ, ◌≤◌, List, Some, length}
use Rattle.pi_region.specs.Image.{Image}
use Rattle.pi_region.specs.Back.{at_length, Advances}
use Rattle.pi_store_blocks.specs.Heap.{Heap, Names, Grows}

-- names that come with a length of the region: those that numbers have when it is so long
abbrev pub NamesAt : Type 0
NamesAt = ℕ → Names

-- a name that is there is there at each greater length
abbrev pub NamesStay : NamesAt → Type 0
NamesStay names = (m n k : ℕ) (text : List ℕ) → m ≤ n → names m k ≡ Some text → names n k ≡ Some text

-- what terms are read from now
abbrev pub heap_at : NamesAt → Image → Heap
heap_at names i = record { names = names (length i.region); next = length i.variables; words = i.region }

-- and what they were read from when the region had this length
abbrev pub past_of : NamesAt → Image → ℕ → Heap
past_of names i n = heap_at names (at_length n i)

-- what was changed since only added to what terms are read from
abbrev pub HeapsGrow : Type 0
HeapsGrow = (names : NamesAt) (i j : Image) → NamesStay names → Advances i j → Grows (heap_at names i) (heap_at names j)
