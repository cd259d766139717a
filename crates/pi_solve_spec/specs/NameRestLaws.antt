-- In a program that isn't by rests the rest counts for nothing over its names either.
use Rattle.std.specs.Prelude.{◌≡◌, ℕ, List}
use Rattle.pi_syntax.specs.ExpTree.{ExpTree}
use Rattle.pi_syntax.specs.ProgramTree.{ProgramTree}
use Rattle.pi_traces.specs.Trace.{Call}
use Rattle.pi_core.specs.declared.log.LogEntry.{LogEntry}
use Rattle.pi_meaning.specs.Shared.View.{body_view}
use Rattle.pi_meaning.specs.OverNames.Stages.{LaterStages}
use Rattle.pi_meaning.specs.OverNames.Run.{names_trace}
use Rattle.pi_solve_spec.specs.Rest.{IgnoresRests}
use Rattle.pi_solve_spec.specs.Written.{AsksNone, ProgramAsksNone}

-- a goal that is asked of it has the same trace under views of a planner's bodies that differ in the number of the rest alone
abbrev pub NamesIgnoreRests : Type 0
NamesIgnoreRests = (later : LaterStages) → IgnoresRests later.calls → (log : List LogEntry) (waiting : List Call) (q r : ℕ) (program : ProgramTree) (goal : ExpTree) →
    ProgramAsksNone program → AsksNone goal → (d : ℕ) → names_trace (body_view log waiting q) later program goal d ≡ names_trace (body_view log waiting r) later program goal d
