-- What a store over raw words holds, and what the trait of stores sees of it.
use Rattle.std.specs.Prelude.{ℕ, zero, suc, ◌-◌, ◌/◌, ◌%◌, ◌==◌, nat_le, Bool, true, false, List, [], ◌∷◌, length, map, drop, None, option_map, unwrap_or, pos}
use Rattle.pi_terms.specs.Tree.{Tree, int}
use Rattle.pi_constraints.specs.State.{Variable, free, within, bound, WatchTree, on_ins, on_bound, on_dom, on_dom_any, on_posted, Agent, State}
use Rattle.pi_constraints.specs.Store.{Moment, Beside, StoreView}
use Rattle.pi_constraints.specs.declared.event.Watch.{Watch}
use Rattle.pi_constraints.specs.declared.event.Activation.{Activation}
use Rattle.pi_region.specs.Image.{Image}
use Rattle.pi_region.specs.Back.{at_length}
use Rattle.pi_store_blocks.specs.Heap.{Heap, term_at}
use Rattle.pi_store_blocks.specs.Past.{heap_at}
use Rattle.pi_store_blocks.specs.Agent.{call_at, rule_at, watches_at}
use Rattle.pi_store_blocks.specs.AgentTable.{end_of, is_alive}
use Rattle.pi_store_blocks.specs.ConstraintTable.{constraint_at}
use Rattle.pi_store.specs.Domains.{domain_at}
use Rattle.pi_store.specs.Waiting.{activation_of}
use Rattle.pi_store.specs.Heads.{taken_in}
use Rattle.pi_store_blocks.specs.NameTable.{NameTable, names_of}
use Rattle.pi_store.specs.Held.{Holding}
use Rattle.pi_store.specs.declared.mark.KeptStore.{KeptStore}
use Rattle.pi_store.specs.declared.mark.RawMark.{RawMark}

-- what terms are read from
abbrev pub heap_of : NameTable → Image → Heap
heap_of t i = heap_at (names_of t) i

-- the tree of a Ref; an integer for a number that has none
abbrev pub tree_of : Heap → ℕ → Tree
tree_of h r = unwrap_or (term_at h r) (int (pos 0))

-- a variable that isn't bound, by where the block of its domain ends
abbrev pub unbound_at : Heap → ℕ → Variable
unbound_at h zero = free
unbound_at h (suc last) = within (domain_at h.words (suc last))

-- a variable by its word: not bound where it is a multiple of 8, and else bound to the Ref before it
abbrev pub variable_by : Bool → Heap → ℕ → Variable
variable_by true h w = unbound_at h (w / 8)
variable_by false h w = bound (tree_of h (w - 1))

abbrev pub variable_in : Heap → ℕ → Variable
variable_in h w = variable_by (w % 8 == 0) h w

-- an event with the tree of its Ref
abbrev pub event_in : Heap → Watch → WatchTree
event_in h (Watch.Ins r) = on_ins (tree_of h r.number)
event_in h (Watch.Bound r) = on_bound (tree_of h r.number)
event_in h (Watch.Dom r slot) = on_dom (tree_of h r.number) slot
event_in h (Watch.DomAny r slot) = on_dom_any (tree_of h r.number) slot
event_in h (Watch.Posted r slot) = on_posted (tree_of h r.number) slot

-- the agent whose words end at a place
abbrev pub agent_at : Heap → ℕ → Bool → Agent
agent_at h end alive = record { call = tree_of h (call_at h.words end).number; rule = rule_at h.words end; watches = map (event_in h) (watches_at h.words end); alive = alive }

-- an agent by its word; for the word of none one that has ended and waits for nothing
abbrev pub agent_in : Heap → ℕ → Agent
agent_in h zero = record { call = int (pos 0); rule = 0; watches = []; alive = false }
agent_in h (suc w) = agent_at h (end_of (suc w)) (is_alive (suc w))

-- an activation by its word: that of its term
abbrev pub activation_in : Heap → ℕ → Activation
activation_in h zero = record { agent = 0; watch = 0; value = None }
activation_in h (suc w) = activation_of (tree_of h (suc w))

-- what waits: those of the table, of which the first were taken, as many as the first of the heads says
abbrev pub waiting_in : Heap → Image → List Activation
waiting_in h i = drop (taken_in i) (map (activation_in h) i.waiting)

-- the state that the words say, over what terms are read from
abbrev pub state_of : Heap → Image → State
state_of h i = record { variables = map (variable_in h) i.variables; constraints = map (constraint_at h.words) i.constraints; agents = map (agent_in h) i.agents; waiting = waiting_in h i }

-- all words of which it consists
abbrev pub words_of : Image → List (List ℕ)
words_of i = i.region ∷ (i.trail ∷ []) ∷ i.variables ∷ i.constraints ∷ i.agents ∷ i.waiting ∷ i.heads ∷ []

abbrev pub moment_of : NameTable → Image → Moment
moment_of t i = record { state = state_of (heap_of t i) i; terms = term_at (heap_of t i); words = words_of i }

-- what a copy of a store keeps beside a mark of this length
abbrev pub beside_in : ℕ → KeptStore → Beside
beside_in len k = record {
  from = words_of (at_length len k.store.image);
  state = state_of (heap_of k.store.names k.store.image) k.store.image;
  names = k.store.names.texts;
  number = k.number;
}

-- A mark is the length that the region had, and may have a copy of a later store beside
abbrev pub view_of : NameTable → Image → StoreView RawMark
view_of t i = record {
  now = moment_of t i;
  at_mark = λ m. moment_of t (at_length m.length i);
  is_good = λ m. nat_le m.length (length i.region);
  beside = λ m. option_map (λ k. beside_in m.length k.value) m.beside;
  names = t.texts;
}

abbrev pub seen : Holding → StoreView RawMark
seen s = view_of s.names s.image

-- and marks stand in the order of these lengths
abbrev pub order : RawMark → ℕ
order m = m.length
