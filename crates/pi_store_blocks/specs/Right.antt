-- Each word of the region was right when it was written, and what keeps that.
use Rattle.std.specs.Prelude.{◌≡◌, ℕ, ◌<◌, ◌≤◌, List, [], ◌∷◌, ◌++◌, Some, length, slice_index}
use Rattle.pi_terms.specs.Tree.{Tree}
use Rattle.pi_region.specs.Image.{Image, appended, pushed, replaced}
use Rattle.pi_region.specs.Back.{at_length}
use Rattle.pi_region.specs.declared.entry.Table.{Table}
use Rattle.pi_store_blocks.specs.Form.{form_of}
use Rattle.pi_store_blocks.specs.Heap.{term_at}
use Rattle.pi_store_blocks.specs.Placed.{IsRefIn, IsWordIn, WritesRight, IsHistory}
use Rattle.pi_store_blocks.specs.Past.{NamesAt, NamesStay, heap_at, past_of}

-- the trail ends within the region, and each word was right behind those before it
pub record IsRight (names : NamesAt) (i : Image) : Type 0 where
  pub trail : i.trail ≤ length i.region
  pub written : (n : ℕ) → n < length i.region → IsWordIn (past_of names i n) (slice_index i.region n)

-- so the heaps that there were are a history
abbrev pub RightIsHistory : Type 0
RightIsHistory = (names : NamesAt) (i : Image) → NamesStay names → IsRight names i → IsHistory (past_of names i) i.region

-- and each Ref of the present heap has a tree, and only Refs have one
abbrev pub RightRefsHaveTrees : Type 0
RightRefsHaveTrees = (names : NamesAt) (i : Image) → NamesStay names → IsRight names i → (r : ℕ) → IsRefIn (heap_at names i) (form_of r) → (t : Tree) × (term_at (heap_at names i) r ≡ Some t)

abbrev pub RightTreesAreRefs : Type 0
RightTreesAreRefs = (names : NamesAt) (i : Image) → NamesStay names → IsRight names i → (r : ℕ) (t : Tree) → term_at (heap_at names i) r ≡ Some t → IsRefIn (heap_at names i) (form_of r)

-- It is kept by a return to a length, by words that are right, by a word that is right, and by each change of a table
abbrev pub RightByUndo : Type 0
RightByUndo = (names : NamesAt) (i : Image) → IsRight names i → (n : ℕ) → IsRight names (at_length n i)

abbrev pub RightByWrites : Type 0
RightByWrites = (names : NamesAt) (i : Image) (ws : List ℕ) → NamesStay names → IsRight names i → WritesRight (heap_at names i) (i.region ++ ws) → IsRight names (appended i ws)

abbrev pub RightByWord : Type 0
RightByWord = (names : NamesAt) (i : Image) (w : ℕ) → NamesStay names → IsRight names i → IsWordIn (heap_at names i) w → IsRight names (appended i (w ∷ []))

abbrev pub RightByPush : Type 0
RightByPush = (names : NamesAt) (i : Image) (t : Table) (w : ℕ) → IsRight names i → IsRight names (pushed i t w)

abbrev pub RightByReplace : Type 0
RightByReplace = (names : NamesAt) (i : Image) (t : Table) (place w : ℕ) → IsRight names i → IsRight names (replaced i t place w)

-- and where there are more names
abbrev pub HasMoreNames : NamesAt → NamesAt → ℕ → Type 0
HasMoreNames old new len = (n k : ℕ) (text : List ℕ) → n ≤ len → old n k ≡ Some text → new n k ≡ Some text

abbrev pub RightByNames : Type 0
RightByNames = (old new : NamesAt) (i : Image) → HasMoreNames old new (length i.region) → IsRight old i → IsRight new i
