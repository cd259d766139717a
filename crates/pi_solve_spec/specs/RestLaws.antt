-- In a program that isn't by rests the rest counts for nothing: under views of a planner's bodies that differ in the number of the rest alone, all means the same.
use Rattle.std.specs.Prelude.{◌≡◌, ◌++◌, ℕ, ℤ, pos, ◌≤ℤ◌, Bool, true, false, List}
use Rattle.pi_terms.specs.Tree.{Tree, Trees}
use Rattle.pi_constraints.specs.State.{State}
use Rattle.pi_core.specs.GoalTree.{GoalTree}
use Rattle.pi_core.specs.CoreTree.{PredTree, QueryTree}
use Rattle.pi_traces.specs.Trace.{Call}
use Rattle.pi_core.specs.declared.log.LogEntry.{LogEntry}
use Rattle.pi_core.specs.declared.log.PlanResult.{PlanResult}
use Rattle.pi_meaning.specs.Shared.View.{body_view}
use Rattle.pi_meaning.specs.Shared.Given.{Later}
use Rattle.pi_meaning.specs.CoreMeaning.Instances.{whole}
use Rattle.pi_meaning.specs.CoreMeaning.Meaning.{meaning}
use Rattle.pi_meaning.specs.CoreMeaning.Rules.{level_at}
use Rattle.pi_meaning.specs.CoreMeaning.Run.{query_trace}
use Rattle.pi_solve_spec.specs.Asked.{planner_trace}
use Rattle.pi_solve_spec.specs.ProgramBodies.{bodies_of}
use Rattle.pi_solve_spec.specs.Rests.{asks_rest, is_by_rests}
use Rattle.pi_solve_spec.specs.Steps.{Valid, number_of}
use Rattle.pi_solve_spec.specs.Entries.{IsRightEntry}
use Rattle.pi_solve_spec.specs.Known.{NotByRests}
use Rattle.pi_solve_spec.specs.Rest.{IgnoresRests}

-- a goal in which `current_resource` isn't called does the same from each place
abbrev pub GoalsIgnoreRests : Type 0
GoalsIgnoreRests = (later : Later) → IgnoresRests later → (log : List LogEntry) (waiting : List Call) (q r : ℕ) (preds : List PredTree) (g : GoalTree) → asks_rest g ≡ false →
    meaning (whole (body_view log waiting q) later preds) g ≡ meaning (whole (body_view log waiting r) later preds) g

-- calls of a program's predicates and functions do the same at each depth
abbrev pub LevelsIgnoreRests : Type 0
LevelsIgnoreRests = (later : Later) → IgnoresRests later → (log : List LogEntry) (waiting : List Call) (q r : ℕ) (preds : List PredTree) → is_by_rests preds ≡ false → (d : ℕ) →
    level_at (whole (body_view log waiting q) later preds) preds d ≡ level_at (whole (body_view log waiting r) later preds) preds d

-- and so does each goal that is asked
abbrev pub QueriesIgnoreRests : Type 0
QueriesIgnoreRests = (later : Later) → IgnoresRests later → (log : List LogEntry) (waiting : List Call) (q r : ℕ) (program : List PredTree) (query : QueryTree) →
    is_by_rests (program ++ query.helpers) ≡ false → asks_rest query.goal ≡ false → (d : ℕ) →
    query_trace (whole (body_view log waiting q) later (program ++ query.helpers)) program query d ≡ query_trace (whole (body_view log waiting r) later (program ++ query.helpers)) program query d

-- The bodies of its planner calls are the same with each rest. So what is said of such bodies holds of the program: which steps there are, what is reached, which plans are valid.
abbrev pub BodiesIgnoreRests : Type 0
BodiesIgnoreRests = (later : Later) → IgnoresRests later → (preds : List PredTree) → is_by_rests preds ≡ false → NotByRests (bodies_of later preds)

-- and a right answer of `best_plan` costs what no valid plan costs less than
abbrev pub BestPlansOfPrograms : Type 0
BestPlansOfPrograms = (later : Later) → IgnoresRests later → (preds : List PredTree) → is_by_rests preds ≡ false → (log : List LogEntry) (start plan : Tree) (limit cost : ℤ) →
    IsRightEntry (bodies_of later preds) log (LogEntry.Planned true start limit (PlanResult.Found plan cost)) →
    (actions : List Tree) (other : ℕ) → Valid (bodies_of later preds) log actions start (number_of limit) other → cost ≤ℤ pos other

-- what planner calls come to doesn't go by the rest
abbrev pub PlannerCallsIgnoreRests : Type 0
PlannerCallsIgnoreRests = (log : List LogEntry) (waiting : List Call) (q r : ℕ) (best : Bool) (ts : Trees) (s : State) →
    planner_trace (body_view log waiting q) best ts s ≡ planner_trace (body_view log waiting r) best ts s
