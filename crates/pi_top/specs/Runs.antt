-- The goals that were run, as they are listed.
use Rattle.std.specs.Prelude.{◌≡◌, ◌≤◌, ◌<◌, ◌+◌, ℕ, List, [], ◌∷◌}
use Rattle.pi_outside.specs.Writes.{SinkWrite}
use Rattle.pi_syntax.specs.ExpTree.{ExpTree}
use Rattle.pi_syntax.specs.ProgramTree.{ProgramTree}
use Rattle.pi_core.specs.declared.log.Work.{Work}
use Rattle.pi_top.specs.declared.manner.Manner.{Manner}
use Rattle.pi_top.specs.declared.runs.QueryRun.{QueryRun}
use Rattle.pi_top.specs.Headline.{Headline, IsCutOff}
use Rattle.pi_top.specs.Told.{Lists}
use Rattle.pi_top.specs.Took.{Bounds, bounds_of, Took, IsAllowed}

abbrev pub no_work : Work
no_work = record { goals = 0; runs = 0; expansions = 0 }

-- there is no planner yet: all the work of a query is runs of propagators
abbrev pub work_of : Took → Work
work_of took = record { goals = 0; runs = took.runs; expansions = 0 }

-- a run that took so much, before which no planner call was done or begun, and in which none was
abbrev pub run_of : Took → QueryRun
run_of took = record { ticks = took.ticks; work = work_of took; known = 0; first = 0 }

-- a goal was run, and it alone is listed; it came to this
pub record HasRan (manner : Manner) (program : ProgramTree) (goal : ExpTree) (runs : Lists) (status : ℕ) (texts : List (List ℕ)) : Type 0 where
  pub took : Took
  pub listed : runs.queries ≡ run_of took ∷ []
  pub headline : Headline manner program goal runs.log took status texts

-- a goal was asked, and it alone is listed, with no more than it may take; its run was cut off
pub record WasCutOff (manner : Manner) (program : ProgramTree) (goal : ExpTree) (runs : Lists) (status : ℕ) (writes : List SinkWrite) : Type 0 where
  pub took : Took
  pub listed : runs.queries ≡ run_of took ∷ []
  pub within : IsAllowed (bounds_of manner) took
  pub cut : IsCutOff manner program goal runs.log took status writes

-- ---- what is said of all that are listed

-- all kinds of work together
abbrev pub all_work : Work → ℕ
all_work work = work.goals + work.runs + work.expansions

-- a run took no more than this
pub record RanWithin (may : Bounds) (run : QueryRun) : Type 0 where
  pub ticks : run.ticks ≤ may.steps
  pub work : all_work run.work ≤ may.work

abbrev pub AllWithin : Bounds → List QueryRun → Type 0
AllWithin may [] = Unit {0}
AllWithin may (run ∷ more) = RanWithin may run × AllWithin may more

-- no run's work reached this
abbrev pub HaveWorkLeft : ℕ → List QueryRun → Type 0
HaveWorkLeft work [] = Unit {0}
HaveWorkLeft work (run ∷ more) = (all_work run.work < work) × HaveWorkLeft work more

-- a run without the number of its runs of propagators, for which the definitions have bounds alone
abbrev pub but_for_runs : QueryRun → QueryRun
but_for_runs run = record { ticks = run.ticks; work = record { goals = run.work.goals; runs = 0; expansions = run.work.expansions }; known = run.known; first = run.first }
