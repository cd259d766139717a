-- The state of a run: the variables that were made, each with its binding or its domain; the constraints that were
-- posted; the agents that were made; the activations that wait. Domains and constraints are those of A User's Guide to
-- Picat, 'Constraints', agents and events those of its 'Action Rules'; how they are kept is own.
use Rattle.std.specs.Prelude.{◌≡◌, ℕ, zero, suc, ◌<◌, ◌≤◌, Bool, false, List, [], ◌∷◌, ◌++◌, length, map, Option, Some, None, unwrap_or, slice_get, slice_index_or, slice_set, IsSomeAnd, ⊤}
use Rattle.pi_terms.specs.Tree.{Tree, var, int, atom, comp}
use Rattle.pi_terms.specs.Variables.{Occurs}
use Rattle.pi_constraints.specs.Domain.{IsDomain, size_of}
use Rattle.pi_constraints.specs.Constraint.{SpeaksOf, IsWithinLimits}
use Rattle.pi_terms.specs.Places.{Places, held}
use Rattle.pi_constraints.specs.Value.{Bindings, IsAcyclic}
use Rattle.pi_constraints.specs.declared.domain.Span.{Span}
use Rattle.pi_constraints.specs.declared.constraint.Constraint.{Constraint}
use Rattle.pi_constraints.specs.declared.event.Activation.{Activation}

-- a variable that was made: free, free with the values that it can have, or bound to a term
pub data Variable : Type 0 where
  free : Variable
  within : List Span → Variable
  bound : Tree → Variable

-- an event that an agent waits for: the term that stands for the event's variable, then the slot that its value takes
pub data WatchTree : Type 0 where
  on_ins : Tree → WatchTree
  on_bound : Tree → WatchTree
  on_dom : Tree → ℕ → WatchTree
  on_dom_any : Tree → ℕ → WatchTree
  on_posted : Tree → ℕ → WatchTree

-- the term in it
abbrev pub watched : WatchTree → Tree
watched (on_ins t) = t
watched (on_bound t) = t
watched (on_dom t slot) = t
watched (on_dom_any t slot) = t
watched (on_posted t slot) = t

-- an agent: the call that became it, the number of the rule that applied, the events that it waits for, and whether it
-- is alive; an ended agent keeps its number
pub record Agent : Type 0 where
  pub call : Tree
  pub rule : ℕ
  pub watches : List WatchTree
  pub alive : Bool

-- variables, constraints and agents by their numbers; activations from the one that waits longest
pub record State : Type 0 where
  pub variables : List Variable
  pub constraints : List Constraint
  pub agents : List Agent
  pub waiting : List Activation

-- the state in which a run begins
abbrev pub empty_state : State
empty_state = record { variables = []; constraints = []; agents = []; waiting = [] }

-- the number that the next variable gets, and so how many were made
abbrev pub next : State → ℕ
next s = length s.variables

abbrev pub binding : Variable → Option Tree
binding free = None
binding (within d) = None
binding (bound t) = Some t

-- what each variable is bound to
abbrev pub bindings : State → Bindings
bindings s = map binding s.variables

-- a variable that was made and is not bound
abbrev pub IsUnbound : State → ℕ → Type 0
IsUnbound s n = (n < next s) × (held (bindings s) n ≡ None)

abbrev pub domain_in : Variable → Option (List Span)
domain_in free = None
domain_in (within d) = Some d
domain_in (bound t) = None

-- the domain of a variable; None for one that has none, for a bound one, and for a number past the last variable
abbrev pub domain_of : State → ℕ → Option (List Span)
domain_of s n = domain_in (slice_index_or s.variables n free)

-- a term with the bindings at its root followed, so many times at most
unfoldable pub followed_for : ℕ → Bindings → Tree → Tree
followed_for zero b t = t
followed_for (suc k) b (var n) = followed_for k b (unwrap_or (held b n) (var n))
followed_for (suc k) b (int n) = int n
followed_for (suc k) b (atom name) = atom name
followed_for (suc k) b (comp name ts) = comp name ts

-- a term with the bindings at its root followed to their end: an unbound variable, or a term that is none
unfoldable pub followed : Bindings → Tree → Tree
followed b t = followed_for (length b) b t

-- the domain of a term: that of the variable that it is at its root
abbrev pub domain_at_root : State → Tree → Option (List Span)
domain_at_root s (var n) = domain_of s n
domain_at_root s (int n) = None
domain_at_root s (atom name) = None
domain_at_root s (comp name ts) = None

-- the term is the variable, or a variable that is bound to it directly or through others
pub data LeadsTo (b : Bindings) : Tree → ℕ → Type 0 where
  is_it : (n : ℕ) → LeadsTo b (var n) n
  through : (m : ℕ) {n : ℕ} (u : Tree) → held b m ≡ Some u → LeadsTo b u n → LeadsTo b (var m) n

-- Changes of a state

-- one more variable
abbrev pub with_new : State → State
with_new s = record { variables = s.variables ++ free ∷ []; constraints = s.constraints; agents = s.agents; waiting = s.waiting }

abbrev pub with_variable : State → ℕ → Variable → State
with_variable s n v = record { variables = slice_set s.variables n v; constraints = s.constraints; agents = s.agents; waiting = s.waiting }

-- a variable bound to a term
abbrev pub with_binding : State → ℕ → Tree → State
with_binding s n t = with_variable s n (bound t)

-- a variable with these values
abbrev pub with_domain : State → ℕ → List Span → State
with_domain s n d = with_variable s n (within d)

abbrev pub with_constraint : State → Constraint → State
with_constraint s c = record { variables = s.variables; constraints = s.constraints ++ c ∷ []; agents = s.agents; waiting = s.waiting }

abbrev pub with_agent : State → Agent → State
with_agent s a = record { variables = s.variables; constraints = s.constraints; agents = s.agents ++ a ∷ []; waiting = s.waiting }

abbrev pub ended : Agent → Agent
ended a = record { call = a.call; rule = a.rule; watches = a.watches; alive = false }

-- the agent with this number ended
unfoldable pub end_agent : List Agent → ℕ → List Agent
end_agent [] n = []
end_agent (a ∷ rest) zero = ended a ∷ rest
end_agent (a ∷ rest) (suc n) = a ∷ end_agent rest n

abbrev pub with_ended : State → ℕ → State
with_ended s n = record { variables = s.variables; constraints = s.constraints; agents = end_agent s.agents n; waiting = s.waiting }

abbrev pub with_waiting : State → List Activation → State
with_waiting s waiting = record { variables = s.variables; constraints = s.constraints; agents = s.agents; waiting = waiting }

-- What is true of each state that a run reaches

-- only variables below n occur in the term
abbrev pub SpeaksBelow : ℕ → Tree → Type 0
SpeaksBelow n t = (m : ℕ) → Occurs m t → m < n

-- places that hold terms of variables below n alone
abbrev pub PlacesBelow : ℕ → Places → Type 0
PlacesBelow n e = (k : ℕ) (t : Tree) → held e k ≡ Some t → SpeaksBelow n t

-- what a variable may be: its values are a domain of two or more, its term speaks of variables that were made
abbrev pub IsVariable : ℕ → Variable → Type 0
IsVariable n free = ⊤
IsVariable n (within d) = IsDomain d × (2 ≤ size_of d)
IsVariable n (bound t) = SpeaksBelow n t

unfoldable pub WatchBelow : ℕ → List WatchTree → Type 0
WatchBelow n [] = ⊤
WatchBelow n (w ∷ ws) = SpeaksBelow n (watched w) × WatchBelow n ws

-- a constraint that keeps the limits and speaks of variables that were made
abbrev pub MayPost : State → Constraint → Type 0
MayPost s c = IsWithinLimits c × ((n : ℕ) → SpeaksOf c n → n < next s)

-- an activation of an agent that was made, by an event that it waits for
pub record IsActivation (s : State) (a : Activation) : Type 0 where
  pub made : IsSomeAnd (slice_get s.agents a.agent) (λ agent. a.watch < length agent.watches)
  pub value : (t : Tree) → a.value ≡ Some t → SpeaksBelow (next s) t

-- no term holds itself, domains have two or more values, and all speaks of variables that were made
pub record IsState (s : State) : Type 0 where
  pub acyclic : IsAcyclic (bindings s)
  pub variables : (n : ℕ) (v : Variable) → slice_get s.variables n ≡ Some v → IsVariable (next s) v
  pub constraints : (i : ℕ) (c : Constraint) → slice_get s.constraints i ≡ Some c → MayPost s c
  pub agents : (i : ℕ) (a : Agent) → slice_get s.agents i ≡ Some a → SpeaksBelow (next s) a.call × WatchBelow (next s) a.watches
  pub waiting : (i : ℕ) (a : Activation) → slice_get s.waiting i ≡ Some a → IsActivation s a
