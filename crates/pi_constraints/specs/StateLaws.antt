-- What the calls of a store make of a state is a state again, each under the condition of its call.
use Rattle.std.specs.Prelude.{◌≡◌, ℕ, ◌≤◌, List, [], ◌∷◌, ◌++◌}
use Rattle.pi_terms.specs.Tree.{Tree}
use Rattle.pi_constraints.specs.Domain.{IsDomain, size_of}
use Rattle.pi_constraints.specs.Value.{MayBind}
use Rattle.pi_constraints.specs.State.{State, Agent, empty_state, next, bindings, followed, IsUnbound, SpeaksBelow, WatchBelow, MayPost, IsActivation, IsState, with_new, with_binding, with_domain, with_constraint, with_agent, with_ended, with_waiting}
use Rattle.pi_constraints.specs.declared.domain.Span.{Span}
use Rattle.pi_constraints.specs.declared.constraint.Constraint.{Constraint}
use Rattle.pi_constraints.specs.declared.event.Activation.{Activation}

abbrev pub EmptyIsAState : Type 0
EmptyIsAState = IsState empty_state

abbrev pub NewVariableKeepsAState : Type 0
NewVariableKeepsAState = (s : State) → IsState s → IsState (with_new s)

-- a variable is bound to a term of variables that were made
abbrev pub BindingKeepsAState : Type 0
BindingKeepsAState = (s : State) (n : ℕ) (u : Tree) → IsState s → MayBind (bindings s) n u → SpeaksBelow (next s) u → IsState (with_binding s n u)

-- or to what that term is at its root, as a store binds it
abbrev pub BindingAtRootKeepsAState : Type 0
BindingAtRootKeepsAState = (s : State) (n : ℕ) (u : Tree) → IsState s → MayBind (bindings s) n u → SpeaksBelow (next s) u →
    IsState (with_binding s n (followed (bindings s) u))

abbrev pub DomainKeepsAState : Type 0
DomainKeepsAState = (s : State) (n : ℕ) (d : List Span) → IsState s → IsUnbound s n → IsDomain d → 2 ≤ size_of d → IsState (with_domain s n d)

abbrev pub ConstraintKeepsAState : Type 0
ConstraintKeepsAState = (s : State) (c : Constraint) → IsState s → MayPost s c → IsState (with_constraint s c)

abbrev pub AgentKeepsAState : Type 0
AgentKeepsAState = (s : State) (a : Agent) → IsState s → SpeaksBelow (next s) a.call → WatchBelow (next s) a.watches → IsState (with_agent s a)

abbrev pub EndedKeepsAState : Type 0
EndedKeepsAState = (s : State) (n : ℕ) → IsState s → IsState (with_ended s n)

-- one more activation waits
abbrev pub WaitingKeepsAState : Type 0
WaitingKeepsAState = (s : State) (a : Activation) → IsState s → IsActivation s a → IsState (with_waiting s (s.waiting ++ a ∷ []))

-- the first activation is taken
abbrev pub TakenKeepsAState : Type 0
TakenKeepsAState = (s : State) (a : Activation) (rest : List Activation) → IsState s → s.waiting ≡ a ∷ rest → IsState (with_waiting s rest)
