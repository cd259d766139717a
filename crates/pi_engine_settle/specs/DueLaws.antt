-- The laws of what goals leave, of what is due after them, and of where they began. (Own.)
use Rattle.std.specs.Prelude.{◌≡◌, ℕ, ◌<◌, List, [], length, Option, Some}
use Rattle.pi_terms.specs.Tree.{Tree}
use Rattle.pi_traces.specs.Trace.{one}
use Rattle.pi_constraints.specs.State.{State, IsState, SpeaksBelow, next}
use Rattle.pi_constraints.specs.Store.{StoreView, Keeps}
use Rattle.pi_constraints.specs.Evaluation.{with_new_variables}
use Rattle.pi_constraints.specs.Unify.{unified}
use Rattle.pi_effects.specs.Effect.{Succeeds}
use Rattle.pi_settling.specs.Load.{load, load_of_failure}
use Rattle.pi_settling.specs.Settled.{IsSettled}
use Rattle.pi_settling.specs.SettlingLaws.{MaySettle}
use Rattle.pi_settling.specs.Runs.{MayPropagate}
use Rattle.pi_settling.specs.Within.{within_goal, notin_goal}
use Rattle.pi_settling.specs.Posted.{posting_goal}
use Rattle.pi_engine_settle.specs.declared.since.Since.{Since}
use Rattle.pi_meaning.specs.Shared.Follows.{Follows}
use Rattle.pi_engine_settle.specs.Due.{IsDueFor, SinceIs}

-- ---- what goals leave follows the state in which they began

abbrev pub FollowsItself : Type 0
FollowsItself = (s : State) → Follows s s

abbrev pub FollowsThen : Type 0
FollowsThen = (s r q : State) → Follows s r → Follows r q → Follows s q

-- evaluation makes new variables alone
abbrev pub NewVariablesFollow : Type 0
NewVariablesFollow = (k : ℕ) (s : State) → Follows s (with_new_variables k s)

abbrev pub UnifiedFollows : Type 0
UnifiedFollows = (s r : State) (t u : Tree) → IsState s → SpeaksBelow (next s) t → SpeaksBelow (next s) u → unified s t u ≡ Some r → Follows s r

abbrev pub WithinFollows : Type 0
WithinFollows = (s r : State) (t u : Tree) → within_goal s t u ≡ Succeeds r → Follows s r

abbrev pub NotinFollows : Type 0
NotinFollows = (s r : State) (t u : Tree) → notin_goal s t u ≡ Succeeds r → Follows s r

abbrev pub PostedFollows : Type 0
PostedFollows = (s r : State) (t : Tree) → posting_goal s t ≡ Succeeds r → Follows s r

-- ---- what is due

-- a propagation may begin with it
abbrev pub DueMayPropagate : Type 0
DueMayPropagate = (before s : State) (due : List ℕ) → IsState s → MaySettle s → IsDueFor before s due → MayPropagate s due

-- where a constraint is due there is a load
abbrev pub DueIsALoad : Type 0
DueIsALoad = (before s : State) (due : List ℕ) → IsDueFor before s due → 0 < length due → ((r : State) → 0 < load before s r) × (0 < load_of_failure before s)

-- where none is due, and there are no agents, the state is settled as it stands, without a load
abbrev pub NoneDueIsSettled : Type 0
NoneDueIsSettled = (before s : State) (due : List ℕ) → due ≡ [] → IsDueFor before s due → IsState s → MaySettle s → s.agents ≡ [] → IsSettled before s (one s)

-- ---- where a goal began

-- it is remembered through every call but a return
abbrev pub SinceStays : Type 0 → Type 0
SinceStays M = (v w : StoreView M) (before : State) (since : Option (Since M)) → Keeps v w → SinceIs v before since → SinceIs w before since
