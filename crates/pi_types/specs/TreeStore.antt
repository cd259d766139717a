-- What a store of whole states holds: the trees of a state's terms, the state that the trait speaks of, and the marks.
use Rattle.std.specs.Prelude.{ℕ, ◌+◌, Bool, nat_lt, pos, None, List, [], ◌∷◌, ◌++◌, length, map, slice_get, slice_index_or, if◌then◌else◌}
use Rattle.pi_terms.specs.Tree.{Tree, var, int, atom, comp, Trees, no_trees, tree}
use Rattle.pi_constraints.specs.State.{State, Variable, free, within, bound, Agent, WatchTree, on_ins, on_bound, on_dom, on_dom_any, on_posted}
use Rattle.pi_constraints.specs.Store.{Moment, StoreView}
use Rattle.pi_constraints.specs.declared.store.Ref.{Ref}
use Rattle.pi_constraints.specs.declared.event.Watch.{Watch}
use Rattle.pi_types.specs.declared.tree_store.state.StoredTerm.{StoredTerm}
use Rattle.pi_types.specs.declared.tree_store.state.Known.{Known}
use Rattle.pi_types.specs.declared.tree_store.state.StoredVariable.{StoredVariable}
use Rattle.pi_types.specs.declared.tree_store.state.StoredAgent.{StoredAgent}
use Rattle.pi_types.specs.declared.tree_store.state.TreeState.{TreeState}

-- the name with this number; empty for a number without a name
abbrev pub name_at : List (List ℕ) → ℕ → List ℕ
name_at names k = slice_index_or names k []

-- the tree of a Ref among those of the terms; an integer for a Ref without a term
abbrev pub tree_in : List Tree → Ref → Tree
tree_in trees r = slice_index_or trees r.number (int (pos 0))

unfoldable pub trees_in : List Tree → List Ref → Trees
trees_in trees [] = no_trees
trees_in trees (r ∷ rs) = tree (tree_in trees r) (trees_in trees rs)

-- the tree of a term, over the trees of the terms before it
abbrev pub term_tree : List (List ℕ) → List Tree → StoredTerm → Tree
term_tree names trees (StoredTerm.Var n) = var n
term_tree names trees (StoredTerm.Int n) = int n
term_tree names trees (StoredTerm.Atom k) = atom (name_at names k)
term_tree names trees (StoredTerm.Comp k args is_ground) = comp (name_at names k) (trees_in trees args)

-- the trees of some terms, and then those of further ones
unfoldable pub grown : List (List ℕ) → List Tree → List StoredTerm → List Tree
grown names trees [] = trees
grown names trees (c ∷ cs) = grown names (trees ++ term_tree names trees c ∷ []) cs

-- the trees of the terms, by their numbers
abbrev pub trees_of : List (List ℕ) → TreeState → List Tree
trees_of names s = grown names [] s.terms

-- what is known of a variable
abbrev pub known_of : List Tree → Known → Variable
known_of trees Known.Free = free
known_of trees (Known.Within d) = within d
known_of trees (Known.Bound r) = bound (tree_in trees r)

abbrev pub variable_of : List Tree → StoredVariable → Variable
variable_of trees v = known_of trees v.known

abbrev pub watch_of : List Tree → Watch → WatchTree
watch_of trees (Watch.Ins r) = on_ins (tree_in trees r)
watch_of trees (Watch.Bound r) = on_bound (tree_in trees r)
watch_of trees (Watch.Dom r slot) = on_dom (tree_in trees r) slot
watch_of trees (Watch.DomAny r slot) = on_dom_any (tree_in trees r) slot
watch_of trees (Watch.Posted r slot) = on_posted (tree_in trees r) slot

abbrev pub agent_of : List Tree → StoredAgent → Agent
agent_of trees a = record { call = tree_in trees a.call; rule = a.rule; watches = map (watch_of trees) a.watches; alive = a.is_alive }

-- the state of the trait, over the trees of its terms
abbrev pub state_of : List Tree → TreeState → State
state_of trees s = record { variables = map (variable_of trees) s.variables; constraints = s.constraints; agents = map (agent_of trees) s.agents; waiting = s.waiting }

abbrev pub moment_over : List Tree → TreeState → Moment
moment_over trees s = record { state = state_of trees s; terms = λ k. slice_get trees k; words = [] }

abbrev pub moment : List (List ℕ) → TreeState → Moment
moment names s = moment_over (trees_of names s) s

-- how many states are kept: those before the present one, and the present one where it is kept
abbrev pub kept_count : List TreeState → Bool → ℕ
kept_count earlier is_kept = length earlier + (if is_kept then 1 else 0)

-- A mark is the number of a kept state
abbrev pub store_view : List (List ℕ) → List TreeState → TreeState → Bool → StoreView ℕ
store_view names earlier present is_kept = record {
  now = moment names present;
  at_mark = λ m. moment names (slice_index_or earlier m present);
  is_good = λ m. nat_lt m (kept_count earlier is_kept);
  beside = λ m. None;
  names = names;
}
