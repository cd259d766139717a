-- Activations as terms: a compound of the agent, of the number of the event that it waited for, and of the event's value where it has one.
use Rattle.std.specs.Prelude.{◌≡◌, ℕ, zero, suc, ◌^◌, nat_lt, cond, ℤ, pos, negsuc, Option, Some, None, ⊤}
use Rattle.pi_terms.specs.Tree.{Tree, var, int, atom, comp, Trees, no_trees, tree, arg_at}
use Rattle.pi_terms.specs.ListNames.{cell_name}
use Rattle.pi_constraints.specs.State.{SpeaksBelow}
use Rattle.pi_constraints.specs.declared.store.Ref.{Ref}
use Rattle.pi_constraints.specs.declared.store.Cell.{Cell}
use Rattle.pi_constraints.specs.declared.event.Activation.{Activation}
use Rattle.pi_store_blocks.specs.Form.{form_of}
use Rattle.pi_store_blocks.specs.Heap.{Heap, term_at}
use Rattle.pi_store_blocks.specs.Placed.{IsRefIn}

abbrev pub number_tree : ℕ → Tree
number_tree n = int (pos n)

-- the value behind the other arguments
abbrev pub value_trees : Option Tree → Trees
value_trees None = no_trees
value_trees (Some value) = tree value no_trees

abbrev pub activation_tree : ℕ → ℕ → Option Tree → Tree
activation_tree agent watch value = comp cell_name (tree (number_tree agent) (tree (number_tree watch) (value_trees value)))

-- a number of 64 bits by its integer; 0 for any other
abbrev pub number_of : ℤ → ℕ
number_of (pos n) = cond (nat_lt n (2 ^ 64)) n 0
number_of (negsuc n) = 0

abbrev pub number_in : Tree → ℕ
number_in (int n) = number_of n
number_in (var n) = 0
number_in (atom name) = 0
number_in (comp name ts) = 0

abbrev pub number_at : Option Tree → ℕ
number_at None = 0
number_at (Some t) = number_in t

-- the activation that a term is
abbrev pub activation_of : Tree → Activation
activation_of t = record { agent = number_at (arg_at t 0); watch = number_at (arg_at t 1); value = arg_at t 2 }

-- the number that is shown at a term's root
abbrev pub number_shown : Cell → ℕ
number_shown (Cell.Int n) = number_of n
number_shown (Cell.Var n) = 0
number_shown (Cell.Atom k) = 0
number_shown (Cell.Comp k count) = 0

-- the Ref of an argument, where there is one
abbrev pub ShowsArgument : Heap → Option Tree → Option Ref → Type 0
ShowsArgument h None None = ⊤
ShowsArgument h None (Some r) = ⊥
ShowsArgument h (Some t) None = ⊥
ShowsArgument h (Some t) (Some r) = term_at h r.number ≡ Some t

-- a value, where there is one, speaks of the first so many variables
abbrev pub HasValueBelow : ℕ → Option Tree → Type 0
HasValueBelow n None = ⊤
HasValueBelow n (Some t) = SpeaksBelow n t

-- the word of what waits is a Ref that has a term, or that of none
abbrev pub WaitsAt : Heap → ℕ → Type 0
WaitsAt h zero = ⊤
WaitsAt h (suc w) = (t : Tree) × (term_at h (suc w) ≡ Some t)

-- the word of what waits is a Ref, or 0, which is that of none
abbrev pub IsWaitingIn : Heap → ℕ → Type 0
IsWaitingIn h zero = ⊤
IsWaitingIn h (suc w) = IsRefIn h (form_of (suc w))
