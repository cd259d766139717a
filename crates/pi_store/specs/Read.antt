-- How a term is read out of a store: its cell, and its arguments to be read next.
use Rattle.std.specs.Prelude.{◌≡◌, ℕ, ◌+◌, ◌≤◌, ◌<◌, List, [], ◌∷◌, ◌++◌, length, Some, slice_index_or, ⊤}
use Rattle.pi_terms.specs.Tree.{Tree, Trees, tree_count, args, arity, drop_trees, cells, most_cells}
use Rattle.pi_terms.specs.BareCells.{bare, bare_all}
use Rattle.pi_terms.specs.declared.term.TermCell.{TermCell}
use Rattle.pi_terms.specs.declared.term.TermCell.TheVariants.{Var, Int, Atom, Comp}
use Rattle.pi_constraints.specs.Value.{Bindings, IsAcyclic, value}
use Rattle.pi_constraints.specs.declared.store.Ref.{Ref}
use Rattle.pi_constraints.specs.declared.store.Cell.{Cell}
use Rattle.pi_constraints.specs.declared.store.ReadStop.{ReadStop}
use Rattle.pi_region.specs.Image.{Image, numbers_of}
use Rattle.pi_store_blocks.specs.Heap.{Heap, all_trees, term_at}
use Rattle.pi_store_blocks.specs.NameTable.{NameTable}
use Rattle.pi_store.specs.Holding.{tree_of, heap_of}
use Rattle.pi_store.specs.Bindings.{HasBound, bound_in}
use Rattle.pi_store.specs.declared.read.Reading.{Reading}

-- the cell of a term by what it is at its root, without its size; a number without a name has an empty one
abbrev pub name_at : List (List ℕ) → ℕ → List ℕ
name_at texts k = slice_index_or texts k []

abbrev pub entered_cell : List (List ℕ) → Cell → TermCell
entered_cell texts (Cell.Var n) = Var n
entered_cell texts (Cell.Int n) = Int n
entered_cell texts (Cell.Atom k) = Atom (name_at texts k)
entered_cell texts (Cell.Comp k count) = Comp (name_at texts k) count 0

abbrev pub arity_of : Cell → ℕ
arity_of (Cell.Var n) = 0
arity_of (Cell.Int n) = 0
arity_of (Cell.Atom k) = 0
arity_of (Cell.Comp k count) = count

-- the other way round
unfoldable pub turned : List Ref → List Ref
turned [] = []
turned (r ∷ rs) = turned rs ++ r ∷ []

-- the arguments of a term from this number on were put on a stack, the first of them on top
pub record Pushes (words : List ℕ) (r : Ref) (count from : ℕ) (old new : List Ref) : Type 0 where
  pub refs : List Ref
  pub many : length refs + from ≡ count
  pub pushed : new ≡ old ++ turned refs
  pub trees : (h : Heap) (u : Tree) → h.words ≡ words → term_at h r.number ≡ Some u → count ≡ arity u → all_trees (term_at h) (numbers_of refs) ≡ Some (drop_trees from (args u))

-- the cells of the value of a Ref, without sizes
abbrev pub read_cells : Bindings → Heap → Ref → List TermCell
read_cells b h r = bare (value b (tree_of h r.number))

-- the cells of the Refs on a stack, the last of which is the top
unfoldable pub open_cells : Bindings → Heap → List Ref → List TermCell
open_cells b h [] = []
open_cells b h (r ∷ rs) = open_cells b h rs ++ read_cells b h r

-- all these have trees
unfoldable pub HaveTrees : Heap → List Ref → Type 0
HaveTrees h [] = ⊤
HaveTrees h (r ∷ rs) = ((t : Tree) × (term_at h r.number ≡ Some t)) × HaveTrees h rs

-- the words of the variables whose bindings are followed: all, or none
abbrev pub followed_words : Reading → List ℕ → List ℕ
followed_words Reading.Value vs = vs
followed_words Reading.Made vs = []

-- a term, and variables that are followed, of which none holds itself
abbrev pub IsReadable : NameTable → Image → List ℕ → Ref → Tree → Type 0
IsReadable t i vs r x = HasBound (heap_of t i) vs × ((term_at (heap_of t i) r.number ≡ Some x) × IsAcyclic (bound_in (heap_of t i) vs))

-- so far: the cells that were read, and the stack of those to be read next
pub record IsReading (t : NameTable) (i : Image) (vs : List ℕ) (r : Ref) (read : List TermCell) (stack : List Ref) : Type 0 where
  pub room : length read + length stack ≤ most_cells
  pub spelt : (ts : Trees) → tree_count ts ≡ length stack → (u : Tree) × (read ++ bare_all ts ≡ bare u)
  pub valid : (x : Tree) → IsReadable t i vs r x → HaveTrees (heap_of t i) stack
  pub reads : (x : Tree) → IsReadable t i vs r x → read ++ open_cells (bound_in (heap_of t i) vs) (heap_of t i) stack ≡ bare (value (bound_in (heap_of t i) vs) x)

-- why a term was not read
abbrev pub StopsAt : Tree → ReadStop → Type 0
StopsAt t ReadStop.TooLarge = most_cells < cells t
StopsAt t ReadStop.Memory = ⊤
