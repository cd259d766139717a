-- The laws of plans.
use Rattle.std.specs.Prelude.{◌≡◌, ℕ, ◌+◌, ◌≤◌, ℤ, pos, ◌≤ℤ◌, true, List, ◌++◌, slice_get, Some}
use Rattle.pi_terms.specs.Tree.{Tree}
use Rattle.pi_core.specs.declared.log.LogEntry.{LogEntry}
use Rattle.pi_core.specs.declared.log.PlanResult.{PlanResult}
use Rattle.pi_solve_spec.specs.Bodies.{Bodies}
use Rattle.pi_solve_spec.specs.Steps.{IsStep, Valid, Reached, IsExhausted, number_of}
use Rattle.pi_solve_spec.specs.Entries.{IsRightEntry, IsRightLog}
use Rattle.pi_solve_spec.specs.Known.{AreBodies, NotByRests}

-- what is right under a log is right under each longer one
abbrev pub RightStaysRight : Type 0
RightStaysRight = (b : Bodies) (log more : List LogEntry) (e : LogEntry) → AreBodies b → IsRightEntry b log e → IsRightEntry b (log ++ more) e

-- so each entry of a right log is right under all of it
abbrev pub RightLogsAreRight : Type 0
RightLogsAreRight = (b : Bodies) (log : List LogEntry) (k : ℕ) (e : LogEntry) → AreBodies b → IsRightLog b log → slice_get log k ≡ Some e → IsRightEntry b log e

-- a valid plan costs no more than the rest it begins with
abbrev pub PlansKeepTheLimit : Type 0
PlansKeepTheLimit = (b : Bodies) (log : List LogEntry) (plan : List Tree) (s : Tree) (r cost : ℕ) → Valid b log plan s r cost → cost ≤ r

-- Where the rest counts for nothing: a plan is valid with each rest that its cost doesn't pass, so a right answer of `best_plan` costs what no valid plan costs
-- less than, and that cost is one number.

abbrev pub PlansGoByCost : Type 0
PlansGoByCost = (b : Bodies) (log : List LogEntry) (plan : List Tree) (s : Tree) (r q cost : ℕ) → NotByRests b → Valid b log plan s r cost → cost ≤ q → Valid b log plan s q cost

-- a step is one with each rest that its cost doesn't pass
abbrev pub StepsGoByCost : Type 0
StepsGoByCost = (b : Bodies) (log : List LogEntry) (s : Tree) (r q : ℕ) (action : Tree) (cost : ℕ) (t : Tree) → NotByRests b → IsStep b log s r action cost t → cost ≤ q → IsStep b log s q action cost t

-- what is reached under a limit is reached under each greater one, with so much more left
abbrev pub ReachedGoesByCost : Type 0
ReachedGoesByCost = (b : Bodies) (log : List LogEntry) (start : Tree) (limit : ℕ) (s : Tree) (r more : ℕ) → NotByRests b → Reached b log start limit s r → Reached b log start (limit + more) s (r + more)

-- and so each number below an exhausted one is exhausted
abbrev pub LessIsExhausted : Type 0
LessIsExhausted = (b : Bodies) (log : List LogEntry) (start : Tree) (limit less : ℕ) → NotByRests b → IsExhausted b log start limit → less ≤ limit → IsExhausted b log start less

abbrev pub BestPlansAreCheapest : Type 0
BestPlansAreCheapest = (b : Bodies) (log : List LogEntry) (start plan : Tree) (limit cost : ℤ) → NotByRests b →
    IsRightEntry b log (LogEntry.Planned true start limit (PlanResult.Found plan cost)) →
    (actions : List Tree) (other : ℕ) → Valid b log actions start (number_of limit) other → cost ≤ℤ pos other

abbrev pub LeastCostIsOne : Type 0
LeastCostIsOne = (b : Bodies) (log : List LogEntry) (start plan other : Tree) (limit cost price : ℤ) → NotByRests b →
    IsRightEntry b log (LogEntry.Planned true start limit (PlanResult.Found plan cost)) → IsRightEntry b log (LogEntry.Planned true start limit (PlanResult.Found other price)) → cost ≡ price

-- where `best_plan` rightly finds none, there is none under any limit up to its own
abbrev pub NoPlanIsNone : Type 0
NoPlanIsNone = (b : Bodies) (log : List LogEntry) (start : Tree) (limit : ℤ) → IsRightEntry b log (LogEntry.Planned true start limit PlanResult.NoPlan) →
    (m : ℕ) → m ≤ number_of limit → (actions : List Tree) (cost : ℕ) → Valid b log actions start m cost → ⊥
