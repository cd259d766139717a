-- Planner calls that a machine waits for: what it says of its run then, and what it owes where the answer is handed in.
use Rattle.std.specs.Prelude.{◌≡◌, List, ◌++◌}
use Rattle.pi_constraints.specs.State.{State}
use Rattle.pi_traces.specs.Trace.{Trace, end, Call, Miss, Emitted}
use Rattle.pi_meaning.specs.Shared.View.{View, Wanted, reading}
use Rattle.pi_meaning.specs.CoreMeaning.Run.{Solution}
use Rattle.pi_core.specs.CoreTree.{PredTree, QueryTree}
use Rattle.pi_meaning.specs.declared.happening.PlanCall.{PlanCall}
use Rattle.pi_meaning.specs.Machine.Leads.{IsAtCall}
use Rattle.pi_engine.specs.Seen.{MachineView}
use Rattle.pi_engine.specs.Runs.{RunsTo, EndsWith}

-- the call, as a machine tells it
abbrev pub asked_for : PlanCall → Call
asked_for call = record { best = call.best; start = call.start; limit = call.limit }

-- what a call comes to under a view, whatever it wants and from each state
abbrev pub ReadsAs : View → Call → (Wanted → State → Trace State) → Type 0
ReadsAs v call answer = (wanted : Wanted) (s : State) → reading v call wanted s ≡ answer wanted s

-- a view lacks it: it has no entry, and isn't being answered
abbrev pub Lacks : View → Call → Type 0
Lacks v call = ReadsAs v call (λ wanted s. end (Miss call))

-- A machine waits for a call: what remains begins with the call's reading, and under a view that lacks it the run has ended.
pub record Needs {M : Type 0} (v : View) (program : List PredTree) (q : QueryTree) (events : List (Emitted Solution)) (m : MachineView M) (call : Call) : Type 0 where
  pub runs : RunsTo v m program q events
  pub reads : IsAtCall v (program ++ q.helpers) q.names call runs.place.config
  pub misses : Lacks v call → EndsWith v program q events (Miss call)

-- An answer to a call that a machine waits for is handed in, as the trace that the call comes to then (`answered_by` a plan,
-- `raised_by` an exception). For each view under which the call comes to just that, the run has come as far as before, so
-- what remains is as it was.
abbrev pub Resumes : {M : Type 0} → Call → (Wanted → State → Trace State) → MachineView M → MachineView M → Type 0
Resumes call answer before after =
    (v : View) (program : List PredTree) (q : QueryTree) (events : List (Emitted Solution)) → ReadsAs v call answer → Needs v program q events before call → RunsTo v after program q events
