-- The trees of Refs over the words of a region.
use Rattle.std.specs.Prelude.{◌≡◌, ℕ, zero, suc, ◌+◌, ◌-◌, ◌<◌, ◌≤◌, nat_lt, nat_le, Bool, true, false, cond, ◌&&◌, List, [], ◌∷◌, ◌++◌, length, take, drop, Option, Some, None, option_map, slice_index}
use Rattle.pi_terms.specs.Tree.{Tree, var, int, atom, comp, Trees, no_trees, tree, args, arity}
use Rattle.pi_terms.specs.Variables.{Occurs}
use Rattle.pi_region.specs.Image.{Image, appended}
use Rattle.pi_constraints.specs.declared.store.Cell.{Cell}
use Rattle.pi_region.specs.Entry.{value_of}
use Rattle.pi_store_blocks.specs.declared.form.Form.{Form}
use Rattle.pi_store_blocks.specs.declared.header.Header.{Header}
use Rattle.pi_store_blocks.specs.Form.{form_of, all_ground, header_of, wide_of}

-- the names of atoms by their numbers; None for a number that is no atom's
abbrev pub Names : Type 0
Names = ℕ → Option (List ℕ)

-- what terms are read from: the names of atoms, how many variables there are, and the words
pub record Heap : Type 0 where
  pub names : Names
  pub next : ℕ
  pub words : List ℕ

-- one more tree in front
abbrev pub in_front : Option Tree → Option Trees → Option Trees
in_front None ts = None
in_front (Some t) None = None
in_front (Some t) (Some ts) = Some (tree t ts)

-- the trees of Refs; None where one of them has none
unfoldable pub all_trees : (ℕ → Option Tree) → List ℕ → Option Trees
all_trees tree_of [] = Some no_trees
all_trees tree_of (r ∷ rs) = in_front (tree_of r) (all_trees tree_of rs)

-- a compound of a name and arguments, where the test holds
abbrev pub compound : Bool → Option (List ℕ) → Option Trees → Option Tree
compound false name ts = None
compound true None ts = None
compound true (Some name) None = None
compound true (Some name) (Some ts) = Some (comp name ts)

abbrev pub is_same : Bool → Bool → Bool
is_same true b = b
is_same false true = false
is_same false false = true

-- so many words from a place on
abbrev pub block : List ℕ → ℕ → ℕ → List ℕ
block words place count = take count (drop place words)

-- so many words stand there, and say of themselves whether they are ground as the flag does
abbrev pub is_block : List ℕ → ℕ → ℕ → Bool → Bool
is_block words place count is_ground = nat_le (place + count) (length words) && is_same is_ground (all_ground (block words place count))

-- the compound with the name of this number whose arguments stand at a place
abbrev pub compound_at : (ℕ → Option Tree) → Heap → ℕ → ℕ → ℕ → Bool → Option Tree
compound_at tree_of h name place count is_ground =
    compound (is_block h.words place count is_ground) (h.names name) (all_trees tree_of (block h.words place count))

-- the integer whose first part is at this place
abbrev pub wide_at : Heap → ℕ → ℕ → Tree
wide_at h place top = int (wide_of top (value_of (slice_index h.words (place - 2))) (value_of (slice_index h.words (place - 1))))

-- the tree of what a header stands for, which stands at this place, where all the words that it speaks of stand below it
abbrev pub headed : (ℕ → Option Tree) → Heap → ℕ → Bool → Header → Option Tree
headed tree_of h place is_ground Header.Nothing = None
headed tree_of h place is_ground (Header.Comp name count flag) = cond (nat_le count place) (compound_at tree_of h name (place - count) count is_ground) None
headed tree_of h place is_ground (Header.Wide top) = cond (nat_le 2 place && is_ground) (Some (wide_at h place top)) None

-- the tree of a form, over the trees of the Refs in it
abbrev pub tree_with : (ℕ → Option Tree) → Heap → Form → Option Tree
tree_with tree_of h (Form.Var n) = cond (nat_lt n h.next) (Some (var n)) None
tree_with tree_of h (Form.Int n) = Some (int n)
tree_with tree_of h (Form.Atom k) = option_map atom (h.names k)
tree_with tree_of h (Form.Pair place is_ground) = compound_at tree_of h 0 place 2 is_ground
tree_with tree_of h (Form.Comp place is_ground) = headed tree_of h place is_ground (header_of (slice_index h.words place))
tree_with tree_of h (Form.Data n) = None

-- the tree of a Ref, where it is no deeper than this
unfoldable pub tree_for : ℕ → Heap → ℕ → Option Tree
tree_for zero h r = None
tree_for (suc depth) h r = tree_with (tree_for depth h) h (form_of r)

-- the tree of a Ref: none is deeper than there are words
abbrev pub term_at : Heap → ℕ → Option Tree
term_at h r = tree_for (suc (length h.words)) h r

-- what a term is at its root
abbrev pub Shows : Names → Tree → Cell → Type 0
Shows names t (Cell.Var n) = t ≡ var n
Shows names t (Cell.Int n) = t ≡ int n
Shows names t (Cell.Atom k) = (name : List ℕ) × (names k ≡ Some name) × (t ≡ atom name)
Shows names t (Cell.Comp k count) = (name : List ℕ) × (names k ≡ Some name) × (t ≡ comp name (args t)) × (count ≡ arity t)

-- a Ref that stands in the new words for the compound of a name and arguments that have trees in the old ones
abbrev pub Makes : List ℕ → List ℕ → ℕ → List ℕ → ℕ → Type 0
Makes old new name args made = (h : Heap) (text : List ℕ) (ts : Trees) → h.words ≡ old → h.names name ≡ Some text → all_trees (term_at h) args ≡ Some ts
    → term_at (record h { words = new }) made ≡ Some (comp text ts)

-- more words in the region, and nothing else
abbrev pub Appends : Image → Image → Type 0
Appends old new = (ws : List ℕ) × (new ≡ appended old ws)

-- more names, more variables, more words
pub record Grows (old new : Heap) : Type 0 where
  pub names : (k : ℕ) (name : List ℕ) → old.names k ≡ Some name → new.names k ≡ Some name
  pub next : old.next ≤ new.next
  pub words : (ws : List ℕ) × (new.words ≡ old.words ++ ws)

-- a Ref that has a tree has it still when there is more
abbrev pub TreesStay : Type 0
TreesStay = (old new : Heap) → Grows old new → (r : ℕ) (t : Tree) → term_at old r ≡ Some t → term_at new r ≡ Some t

-- only variables that were made occur in a tree
abbrev pub TreesSpeakBelow : Type 0
TreesSpeakBelow = (h : Heap) (r : ℕ) (t : Tree) → term_at h r ≡ Some t → (n : ℕ) → Occurs n t → n < h.next
