-- How a term of a copying store is read: its cell, and its arguments to be read next.
use Rattle.std.specs.Prelude.{◌≡◌, ℕ, ◌+◌, ◌≤◌, ◌<◌, List, [], ◌∷◌, ◌++◌, length, Option, Some, None, slice_get, ⊤}
use Rattle.pi_terms.specs.Tree.{Tree, Trees, tree_count, cells, most_cells}
use Rattle.pi_constraints.specs.Value.{Bindings, IsAcyclic, value}
use Rattle.pi_constraints.specs.State.{bindings}
use Rattle.pi_types.specs.TreeStore.{tree_in, trees_of, state_of, name_at}
use Rattle.pi_types.specs.TreeStoreWalks.{AllBelow}
use Rattle.pi_types.specs.TreeStoreSound.{IsSoundState}
use Rattle.pi_terms.specs.BareCells.{bare, bare_all}
use Rattle.pi_constraints.specs.declared.store.Ref.{Ref}
use Rattle.pi_constraints.specs.declared.store.ReadStop.{ReadStop}
use Rattle.pi_terms.specs.declared.term.TermCell.{TermCell}
use Rattle.pi_terms.specs.declared.term.TermCell.TheVariants.{Var, Int, Atom, Comp}
use Rattle.pi_types.specs.declared.tree_store.state.StoredTerm.{StoredTerm}
use Rattle.pi_types.specs.declared.tree_store.state.TreeState.{TreeState}

-- the cell of a term, without its size
abbrev pub entered_cell : List (List ℕ) → ℕ → Option StoredTerm → TermCell
entered_cell names n None = Var n
entered_cell names n (Some (StoredTerm.Var m)) = Var m
entered_cell names n (Some (StoredTerm.Int i)) = Int i
entered_cell names n (Some (StoredTerm.Atom k)) = Atom (name_at names k)
entered_cell names n (Some (StoredTerm.Comp k args is_ground)) = Comp (name_at names k) (length args) 0

abbrev pub entered_args : Option StoredTerm → List Ref
entered_args None = []
entered_args (Some (StoredTerm.Var m)) = []
entered_args (Some (StoredTerm.Int i)) = []
entered_args (Some (StoredTerm.Atom k)) = []
entered_args (Some (StoredTerm.Comp k args is_ground)) = args

-- the other way round
unfoldable pub turned : List Ref → List Ref
turned [] = []
turned (r ∷ rs) = turned rs ++ r ∷ []

-- the cells of the value of a Ref, without sizes
abbrev pub read_cells : Bindings → List Tree → Ref → List TermCell
read_cells b trees r = bare (value b (tree_in trees r))

-- the cells of the Refs on a stack, the last of which is the top
unfoldable pub open_cells : Bindings → List Tree → List Ref → List TermCell
open_cells b trees [] = []
open_cells b trees (r ∷ rs) = open_cells b trees rs ++ read_cells b trees r

abbrev pub IsReadable : List (List ℕ) → TreeState → Ref → Tree → Type 0
IsReadable names s r t = IsSoundState names s × ((slice_get (trees_of names s) r.number ≡ Some t) × IsAcyclic (bindings (state_of (trees_of names s) s)))

-- so far: the cells that were read, and the stack of those to be read next
pub record IsReading (names : List (List ℕ)) (s : TreeState) (r : Ref) (read : List TermCell) (stack : List Ref) : Type 0 where
  pub room : length read + length stack ≤ most_cells
  pub spelt : (ts : Trees) → tree_count ts ≡ length stack → (u : Tree) × (read ++ bare_all ts ≡ bare u)
  pub valid : (t : Tree) → IsReadable names s r t → AllBelow (length s.terms) stack
  pub reads : (t : Tree) → IsReadable names s r t → read ++ open_cells (bindings (state_of (trees_of names s) s)) (trees_of names s) stack ≡ bare (value (bindings (state_of (trees_of names s) s)) t)

-- why a term was not read
abbrev pub StopsAt : Tree → ReadStop → Type 0
StopsAt t ReadStop.TooLarge = most_cells < cells t
StopsAt t ReadStop.Memory = ⊤
