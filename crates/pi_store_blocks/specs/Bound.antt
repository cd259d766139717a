-- What variables are bound to are Refs, and blocks of their domains stand in the region, now and at each length that it had; and what keeps that.
use Rattle.std.specs.Prelude.{◌≡◌, ◌≢◌, ℕ, suc, ◌-◌, ◌*◌, ◌/◌, ◌%◌, ◌≤◌, List, Some, length, slice_index}
use Rattle.pi_terms.specs.Tree.{Tree}
use Rattle.pi_region.specs.Image.{Image, appended, pushed, replaced}
use Rattle.pi_region.specs.Back.{at_length}
use Rattle.pi_region.specs.declared.entry.Table.{Table}
use Rattle.pi_store_blocks.specs.Form.{form_of}
use Rattle.pi_store_blocks.specs.Heap.{Heap, term_at}
use Rattle.pi_store_blocks.specs.Placed.{IsRefIn}
use Rattle.pi_store_blocks.specs.Past.{NamesAt, NamesStay, heap_at}
use Rattle.pi_store_blocks.specs.Kept.{AreKept}
use Rattle.pi_store_blocks.specs.Right.{IsRight, HasMoreNames}

-- the word of a variable: 8 times the place where the block of its domain ends, 0 where it has none; and any other is 1 more than the Ref that it
-- is bound to, since no Ref is 7 by its lowest three bits
pub record IsBoundIn (h : Heap) (w : ℕ) : Type 0 where
  pub place : w % 8 ≡ 0 → w / 8 ≤ length h.words
  pub ref : w % 8 ≢ 0 → IsRefIn h (form_of (w - 1))

-- the words of the variables are such, now and at each length that the region had
abbrev pub AreBound : NamesAt → Image → Type 0
AreBound names i = AreKept IsBoundIn Table.Variables names i

-- so what a variable is bound to has a tree
abbrev pub BoundHaveTrees : Type 0
BoundHaveTrees = (names : NamesAt) (i : Image) → NamesStay names → IsRight names i → AreBound names i → (n : ℕ) → slice_index i.variables n % 8 ≢ 0 → (t : Tree) × (term_at (heap_at names i) (slice_index i.variables n - 1) ≡ Some t)

-- and is a Ref of the present heap
abbrev pub BoundAreRefs : Type 0
BoundAreRefs = (names : NamesAt) (i : Image) → IsRight names i → AreBound names i → (n : ℕ) → slice_index i.variables n % 8 ≢ 0 → IsRefIn (heap_at names i) (form_of (slice_index i.variables n - 1))

-- It is kept by a return to a length, by more words, by one more free variable, and by each change of another table
abbrev pub BoundByUndo : Type 0
BoundByUndo = (names : NamesAt) (i : Image) → IsRight names i → AreBound names i → (n : ℕ) → AreBound names (at_length n i)

abbrev pub BoundByWords : Type 0
BoundByWords = (names : NamesAt) (i : Image) (ws : List ℕ) → NamesStay names → IsRight names i → AreBound names i → AreBound names (appended i ws)

abbrev pub BoundByNew : Type 0
BoundByNew = (names : NamesAt) (i : Image) → NamesStay names → IsRight names i → AreBound names i → AreBound names (pushed i Table.Variables 0)

abbrev pub BoundByPush : Type 0
BoundByPush = (names : NamesAt) (i : Image) (t : Table) (w : ℕ) → t ≢ Table.Variables → NamesStay names → IsRight names i → AreBound names i → AreBound names (pushed i t w)

abbrev pub BoundByReplace : Type 0
BoundByReplace = (names : NamesAt) (i : Image) (t : Table) (place w : ℕ) → t ≢ Table.Variables → NamesStay names → IsRight names i → AreBound names i → AreBound names (replaced i t place w)

-- by another binding, to a Ref of the heap
abbrev pub BoundByBinding : Type 0
BoundByBinding = (names : NamesAt) (i : Image) (n r : ℕ) → NamesStay names → IsRight names i → AreBound names i → IsRefIn (heap_at names i) (form_of r) → AreBound names (replaced i Table.Variables n (suc r))

-- by another domain, whose block stands in the region
abbrev pub BoundByDomain : Type 0
BoundByDomain = (names : NamesAt) (i : Image) (n end : ℕ) → NamesStay names → IsRight names i → AreBound names i → end ≤ length i.region → AreBound names (replaced i Table.Variables n (8 * end))

-- and where there are more names
abbrev pub BoundByNames : Type 0
BoundByNames = (old new : NamesAt) (i : Image) → HasMoreNames old new (length i.region) → AreBound old i → AreBound new i
