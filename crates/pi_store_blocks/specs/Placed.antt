-- Which numbers are terms: by the words that they point to alone, where each word was right when it was written.
use Rattle.std.specs.Prelude.{◌≡◌, ℕ, ◌+◌, ◌-◌, ◌<◌, ◌≤◌, Bool, true, false, cond, nat_le, ◌&&◌, List, [], ◌∷◌, length, take, Some, slice_index, ⊤}
use Rattle.pi_terms.specs.Tree.{Tree}
use Rattle.pi_store_blocks.specs.declared.form.Form.{Form}
use Rattle.pi_store_blocks.specs.declared.header.Header.{Header}
use Rattle.pi_store_blocks.specs.Form.{form_of, all_ground, is_ref, header_of}
use Rattle.pi_store_blocks.specs.Heap.{Heap, Names, is_same, block, term_at, Grows}

unfoldable pub all_refs : List ℕ → Bool
all_refs [] = true
all_refs (w ∷ ws) = cond (is_ref w) (all_refs ws) false

-- a header that stands for something that is ground or not, as this flag says
abbrev pub is_headed : Bool → Header → Bool
is_headed is_ground Header.Nothing = false
is_headed is_ground (Header.Comp name count own) = is_same own is_ground
is_headed is_ground (Header.Wide top) = is_ground

-- two Refs stand there, or a header
abbrev pub is_placed : List ℕ → Form → Bool
is_placed words (Form.Var n) = true
is_placed words (Form.Int n) = true
is_placed words (Form.Atom k) = true
is_placed words (Form.Pair place is_ground) = nat_le (place + 2) (length words) && (all_refs (block words place 2) && is_same is_ground (all_ground (block words place 2)))
is_placed words (Form.Comp place is_ground) = is_headed is_ground (header_of (slice_index words place))
is_placed words (Form.Data n) = false

abbrev pub IsNamed : Names → ℕ → Type 0
IsNamed names k = (text : List ℕ) × (names k ≡ Some text)

-- a Ref of a heap: its variable was made, its atom has a name, and what it points to is there
abbrev pub IsRefIn : Heap → Form → Type 0
IsRefIn h (Form.Var n) = n < h.next
IsRefIn h (Form.Int n) = ⊤
IsRefIn h (Form.Atom k) = IsNamed h.names k
IsRefIn h (Form.Pair place is_ground) = IsNamed h.names 0 × (is_placed h.words (Form.Pair place is_ground) ≡ true)
IsRefIn h (Form.Comp place is_ground) = is_placed h.words (Form.Comp place is_ground) ≡ true
IsRefIn h (Form.Data n) = ⊥

-- the words below a header are the Refs that it speaks of
pub record Heads (h : Heap) (name count : ℕ) (is_ground : Bool) : Type 0 where
  pub named : IsNamed h.names name
  pub within : count ≤ length h.words
  pub refs : all_refs (block h.words (length h.words - count) count) ≡ true
  pub flag : all_ground (block h.words (length h.words - count) count) ≡ is_ground

-- the words that a header speaks of stand below it
abbrev pub IsHeaderIn : Heap → Header → Type 0
IsHeaderIn h Header.Nothing = ⊤
IsHeaderIn h (Header.Comp name count is_ground) = Heads h name count is_ground
IsHeaderIn h (Header.Wide top) = 2 ≤ length h.words

-- what may be written behind the words of a heap: a Ref of it, or a word that says nothing wrong of the words below it
abbrev pub IsWordOf : Heap → ℕ → Form → Type 0
IsWordOf h w (Form.Var n) = IsRefIn h (Form.Var n)
IsWordOf h w (Form.Int n) = ⊤
IsWordOf h w (Form.Atom k) = IsRefIn h (Form.Atom k)
IsWordOf h w (Form.Pair place is_ground) = IsRefIn h (Form.Pair place is_ground)
IsWordOf h w (Form.Comp place is_ground) = IsRefIn h (Form.Comp place is_ground)
IsWordOf h w (Form.Data n) = IsHeaderIn h (header_of w)

abbrev pub IsWordIn : Heap → ℕ → Type 0
IsWordIn h w = IsWordOf h w (form_of w)

-- the heaps that there were when the words had each length; each word was right when it was written
pub record IsHistory (past : ℕ → Heap) (words : List ℕ) : Type 0 where
  pub front : (n : ℕ) → n ≤ length words → (past n).words ≡ take n words
  pub grows : (m n : ℕ) → m ≤ n → n ≤ length words → Grows (past m) (past n)
  pub written : (n : ℕ) → n < length words → IsWordIn (past n) (slice_index words n)

-- then each Ref of one of these heaps has a tree there
abbrev pub RefsHaveTrees : Type 0
RefsHaveTrees = (past : ℕ → Heap) (words : List ℕ) → IsHistory past words → (n : ℕ) → n ≤ length words → (r : ℕ) → IsRefIn (past n) (form_of r) → (t : Tree) × (term_at (past n) r ≡ Some t)

-- and only Refs have one
abbrev pub TreesAreRefs : Type 0
TreesAreRefs = (past : ℕ → Heap) (words : List ℕ) → IsHistory past words → (n : ℕ) → n ≤ length words → (r : ℕ) (t : Tree) → term_at (past n) r ≡ Some t → IsRefIn (past n) (form_of r)

-- a Ref is one still when there is more
abbrev pub RefsStay : Type 0
RefsStay = (old new : Heap) → Grows old new → (r : ℕ) → IsRefIn old (form_of r) → IsRefIn new (form_of r)

abbrev pub AreRefsIn : Heap → List ℕ → Type 0
AreRefsIn h rs = (i : ℕ) → i < length rs → IsRefIn h (form_of (slice_index rs i))

-- these words are those of the heap and then others, each of which is right behind those before it
abbrev pub WritesRight : Heap → List ℕ → Type 0
WritesRight h words = (n : ℕ) → length h.words ≤ n → n < length words → IsWordIn (record h { words = take n words }) (slice_index words n)
