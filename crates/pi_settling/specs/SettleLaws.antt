-- The laws of settling as a function.
use Rattle.std.specs.Prelude.{◌≡◌, ◌⊎◌, ℕ, ℤ, List, Some, None}
use Rattle.pi_terms.specs.Tree.{Tree, Trees, var, int, atom, comp}
use Rattle.pi_traces.specs.Trace.{one}
use Rattle.pi_constraints.specs.State.{State, IsState, next, bindings, followed}
use Rattle.pi_settling.specs.Stable.{IsEmptied, IsStable}
use Rattle.pi_settling.specs.SettlingLaws.{MaySettle, Settles}
use Rattle.pi_settling.specs.Calm.{IsCalm}
use Rattle.pi_settling.specs.Settled.{with_events}
use Rattle.pi_settling.specs.Settle.{stable_state, settlement, settled}

-- of a state that may settle it gives the stable state, or finds that there is none
abbrev pub GivesTheStableState : Type 0
GivesTheStableState = (s r : State) → IsState s → MaySettle s → stable_state s ≡ Some r → IsStable s r

abbrev pub FindsWhatIsEmptied : Type 0
FindsWhatIsEmptied = (s : State) → IsState s → MaySettle s → stable_state s ≡ None → IsEmptied s

-- and gives no other: what is a stable state is that one, and where some domain is empty none is found
abbrev pub GivesNoOther : Type 0
GivesNoOther = (s r : State) → IsState s → MaySettle s → IsStable s r → stable_state s ≡ Some r

abbrev pub FindsEachThatIsEmptied : Type 0
FindsEachThatIsEmptied = (s : State) → IsState s → MaySettle s → IsEmptied s → stable_state s ≡ None

-- so it is a way to settle
abbrev pub SettledSettles : Type 0
SettledSettles = Settles settled

-- nothing comes of settling a calm state from itself
abbrev pub CalmIsSettled : Type 0
CalmIsSettled = (s : State) → IsCalm s → settled s s ≡ one s

-- what a settlement leaves is the stable state, with the activations of the goal's events after those that wait
abbrev pub LeavesTheStableState : Type 0
LeavesTheStableState = (before s q : State) → (settlement before s).left ≡ Some q → (r : State) × (stable_state s ≡ Some r) × (q ≡ with_events before r)

abbrev pub LeavesNothing : Type 0
LeavesNothing = (before s : State) → (settlement before s).left ≡ None → stable_state s ≡ None

-- In every state, also one that no store has, only variables with domains change: so no variable is made or lost, and what a term is followed to stays where that is no variable, and
-- is the same variable or an integer where it is one.
abbrev pub SettlingMakesNoVariable : Type 0
SettlingMakesNoVariable = (s r : State) → stable_state s ≡ Some r → next r ≡ next s

abbrev pub FollowedStay : Type 0
FollowedStay = (s r : State) (t : Tree) → stable_state s ≡ Some r →
    ((i : ℤ) → followed (bindings s) t ≡ int i → followed (bindings r) t ≡ int i)
    × ((name : List ℕ) → followed (bindings s) t ≡ atom name → followed (bindings r) t ≡ atom name)
    × ((name : List ℕ) (ts : Trees) → followed (bindings s) t ≡ comp name ts → followed (bindings r) t ≡ comp name ts)

abbrev pub FollowedToVariables : Type 0
FollowedToVariables = (s r : State) (t : Tree) (n : ℕ) → stable_state s ≡ Some r → followed (bindings s) t ≡ var n →
    (followed (bindings r) t ≡ var n) ⊎ ((i : ℤ) × (followed (bindings r) t ≡ int i))

-- nothing else of it changes
abbrev pub SettlingKeepsTheRest : Type 0
SettlingKeepsTheRest = (s r : State) → stable_state s ≡ Some r → (r.constraints ≡ s.constraints) × (r.agents ≡ s.agents) × (r.waiting ≡ s.waiting)
