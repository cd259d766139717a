-- The laws of calm states: which states are, what keeps them so, and what goals leave that began in one. (Own.)
use Rattle.std.specs.Prelude.{◌≡◌, ℕ, ◌+◌, ◌≤◌, List, [], All, Option, Some}
use Rattle.pi_terms.specs.Tree.{Tree, var, Trees}
use Rattle.pi_terms.specs.Places.{Places}
use Rattle.pi_traces.specs.Trace.{Trace, one, answers}
use Rattle.pi_constraints.specs.declared.constraint.Constraint.{Constraint}
use Rattle.pi_constraints.specs.declared.constraint.Item.{Item}
use Rattle.pi_constraints.specs.State.{State, empty_state, next, bindings, followed, SpeaksBelow, IsState}
use Rattle.pi_constraints.specs.Evaluation.{slot_term, evaluated, evaluated_all, with_new_variables}
use Rattle.pi_constraints.specs.Unify.{unified}
use Rattle.pi_effects.specs.Effect.{Succeeds}
use Rattle.pi_settling.specs.Stable.{IsStable}
use Rattle.pi_settling.specs.Settled.{IsSettled, with_events}
use Rattle.pi_settling.specs.SettlingLaws.{MaySettle}
use Rattle.pi_settling.specs.Calm.{IsCalm}
use Rattle.pi_settling.specs.Confined.{confined}
use Rattle.pi_settling.specs.Within.{within_goal, notin_goal}
use Rattle.pi_settling.specs.Posted.{with_constraints, posting_goal}

-- ---- which states are calm

abbrev pub EmptyIsCalm : Type 0
EmptyIsCalm = IsCalm empty_state

abbrev pub WithoutConstraintsIsCalm : Type 0
WithoutConstraintsIsCalm = (s : State) → IsState s → s.constraints ≡ [] → IsCalm s

abbrev pub StableIsCalm : Type 0
StableIsCalm = (s r : State) → IsState s → MaySettle s → IsStable s r → IsCalm r

-- whether a state is calm goes by its variables and its constraints
abbrev pub CalmGoesByVariables : Type 0
CalmGoesByVariables = (s r : State) → IsCalm s → IsState r → r.variables ≡ s.variables → r.constraints ≡ s.constraints → IsCalm r

abbrev pub EventsKeepCalm : Type 0
EventsKeepCalm = (before s : State) → IsCalm s → IsCalm (with_events before s)

-- what settling comes to is calm, and has the variables that there were
abbrev pub SettledIsCalm : Type 0
SettledIsCalm = (before s : State) (t : Trace State) → IsState s → MaySettle s → IsSettled before s t → All (λ r. IsCalm r × (next r ≡ next s)) (answers t)

-- ---- new variables

abbrev pub NewVariablesAddUp : Type 0
NewVariablesAddUp = (j k : ℕ) (s : State) → with_new_variables k (with_new_variables j s) ≡ with_new_variables (j + k) s

abbrev pub NewVariablesKeepCalm : Type 0
NewVariablesKeepCalm = (k : ℕ) (s : State) → IsCalm s → IsCalm (with_new_variables k s)

-- evaluation makes new variables alone, and so does a slot
abbrev pub SlotMakesVariables : Type 0
SlotMakesVariables = (o : Option Tree) (k : ℕ) (e : Places) (s : State) → (j : ℕ) × ((slot_term o k e s).state ≡ with_new_variables j s)

abbrev pub EvaluationMakesVariables : Type 0
EvaluationMakesVariables = (t : Tree) (e : Places) (s : State) → (k : ℕ) × ((evaluated t e s).state ≡ with_new_variables k s)

abbrev pub EvaluationOfAllMakesVariables : Type 0
EvaluationOfAllMakesVariables = (ts : Trees) (e : Places) (s : State) → (k : ℕ) × ((evaluated_all ts e s).state ≡ with_new_variables k s)

abbrev pub EvaluationKeepsCalm : Type 0
EvaluationKeepsCalm = (t : Tree) (e : Places) (s : State) → IsCalm s → IsCalm (evaluated t e s).state

abbrev pub EvaluationOfAllKeepsCalm : Type 0
EvaluationOfAllKeepsCalm = (ts : Trees) (e : Places) (s : State) → IsCalm s → IsCalm (evaluated_all ts e s).state

-- ---- settling adds nothing

abbrev pub CalmIsStable : Type 0
CalmIsStable = (s : State) → IsCalm s → IsStable s s

abbrev pub CalmIsSettled : Type 0
CalmIsSettled = (s : State) → IsCalm s → IsSettled s s (one s)

-- nor do new variables
abbrev pub NewVariablesAreSettled : Type 0
NewVariablesAreSettled = (k : ℕ) (before : State) → IsCalm before → IsSettled before (with_new_variables k before) (one (with_new_variables k before))

-- nor does anything where there are neither constraints nor agents
abbrev pub WithoutConstraintsIsSettled : Type 0
WithoutConstraintsIsSettled = (before s : State) → IsState s → s.constraints ≡ [] → s.agents ≡ [] → IsSettled before s (one s)

-- ---- what goals leave may settle

-- as many variables, and all else as it was
pub record KeepsTheRest (s r : State) : Type 0 where
  pub many : next r ≡ next s
  pub constraints : r.constraints ≡ s.constraints
  pub agents : r.agents ≡ s.agents
  pub waiting : r.waiting ≡ s.waiting

-- so it is in every state
abbrev pub UnifiedKeepsTheRest : Type 0
UnifiedKeepsTheRest = (s r : State) (t u : Tree) → unified s t u ≡ Some r → KeepsTheRest s r

abbrev pub UnifiedMaySettle : Type 0
UnifiedMaySettle = (s r : State) (t u : Tree) → IsState s → MaySettle s → unified s t u ≡ Some r → MaySettle r

-- a state that a goal left may settle, and its agents and what waits are as they were
pub record MaySettleAfter (s r : State) : Type 0 where
  pub state : IsState r
  pub settles : MaySettle r
  pub more : next s ≤ next r
  pub agents : r.agents ≡ s.agents
  pub waiting : r.waiting ≡ s.waiting

abbrev pub WithinMaySettle : Type 0
WithinMaySettle = (s r : State) (t u : Tree) → IsState s → MaySettle s → within_goal s t u ≡ Succeeds r → MaySettleAfter s r

abbrev pub NotinMaySettle : Type 0
NotinMaySettle = (s r : State) (t u : Tree) → IsState s → MaySettle s → notin_goal s t u ≡ Succeeds r → MaySettleAfter s r

abbrev pub PostedMaySettle : Type 0
PostedMaySettle = (s r : State) (t : Tree) → IsState s → MaySettle s → SpeaksBelow (next s) t → posting_goal s t ≡ Succeeds r → MaySettleAfter s r

-- and so is one in which labelling begins
abbrev pub ConfinedMaySettle : Type 0
ConfinedMaySettle = (s : State) (items : List Item) → IsState s → MaySettle s → MaySettleAfter s (confined s items)

-- ---- what terms are followed to, in every state

-- what a term is followed to stays, where that is no variable
abbrev pub FollowedStay : State → State → Type 0
FollowedStay s r = (t u : Tree) → ((n : ℕ) → u ≡ var n → ⊥) → followed (bindings s) t ≡ u → followed (bindings r) t ≡ u

abbrev pub StableKeepsFollowed : Type 0
StableKeepsFollowed = (s r : State) → IsStable s r → FollowedStay s r

-- settling too
abbrev pub SettledKeepsFollowed : Type 0
SettledKeepsFollowed = (before s : State) (t : Trace State) → IsSettled before s t → All (FollowedStay s) (answers t)

abbrev pub WithinKeepsFollowed : Type 0
WithinKeepsFollowed = (s r : State) (t u : Tree) → within_goal s t u ≡ Succeeds r → FollowedStay s r

abbrev pub NotinKeepsFollowed : Type 0
NotinKeepsFollowed = (s r : State) (t u : Tree) → notin_goal s t u ≡ Succeeds r → FollowedStay s r

abbrev pub PostedKeepsFollowed : Type 0
PostedKeepsFollowed = (s r : State) (t : Tree) → posting_goal s t ≡ Succeeds r → FollowedStay s r

abbrev pub NewVariablesKeepFollowed : Type 0
NewVariablesKeepFollowed = (k : ℕ) (s : State) → FollowedStay s (with_new_variables k s)

abbrev pub ConfinedKeepsFollowed : Type 0
ConfinedKeepsFollowed = (s : State) (items : List Item) → FollowedStay s (confined s items)

abbrev pub ConstraintsKeepFollowed : Type 0
ConstraintsKeepFollowed = (s : State) (cs : List Constraint) → FollowedStay s (with_constraints cs s)
