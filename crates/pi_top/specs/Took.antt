-- What a query may take, and what its run took: Ticks and work. Of the kinds of work a query that calls no planner does one, runs of propagators.
use Rattle.std.specs.Prelude.{◌≡◌, ◌≤◌, ◌+◌, ℕ, List}
use Rattle.pi_traces.specs.Trace.{Emitted, count_ticks}
use Rattle.pi_core.specs.declared.log.Work.{Work}
use Rattle.pi_meaning.specs.declared.happening.Budget.{Budget}
use Rattle.pi_meaning.specs.declared.happening.Mode.{Mode}
use Rattle.pi_engine.specs.Happens.{sum_of_loads}
use Rattle.pi_top_words.specs.declared.asked.Options.{Options}
use Rattle.pi_top.specs.declared.manner.Manner.{Manner}
use Rattle.pi_top.specs.QueryEnd.{QueryEnd, WorkSpent}

-- ---- what it may take

-- so many Ticks, and so much work
pub record Bounds : Type 0 where
  pub steps : ℕ
  pub work : ℕ

-- in some manner
abbrev pub bounds_of : Manner → Bounds
bounds_of manner = record { steps = manner.steps; work = manner.work }

-- as the words say
abbrev pub bounds_asked : Options → Bounds
bounds_asked asked = record { steps = asked.steps; work = asked.work }

-- with this budget
abbrev pub bounds_in : Budget → Bounds
bounds_in b = record { steps = b.steps; work = b.limit }

-- what stays of a budget beside what is counted: its bounds, and of work all but runs of propagators, which are all that a Top machine does
pub record KeepsRest (mode : Mode) (b c : Budget) : Type 0 where
  pub bounds : bounds_in c ≡ bounds_in b
  pub goals : mode ≡ Mode.Top → c.work.goals ≡ b.work.goals
  pub expansions : c.work.expansions ≡ b.work.expansions

-- ---- what it took

-- there is no work but runs of propagators
pub record AreRunsAlone (work : Work) : Type 0 where
  pub goals : work.goals ≡ 0
  pub expansions : work.expansions ≡ 0

pub record Took : Type 0 where
  pub ticks : ℕ
  pub runs : ℕ

abbrev pub nothing_taken : Took
nothing_taken = record { ticks = 0; runs = 0 }

-- by what a budget counted
abbrev pub took_in : Budget → Took
took_in b = record { ticks = b.ticks; runs = b.work.runs }

-- no more than it may
pub record IsAllowed (may : Bounds) (took : Took) : Type 0 where
  pub ticks : took.ticks ≤ may.steps
  pub runs : took.runs ≤ may.work

-- A part of a run took its Ticks, and runs of propagators in its propagations, all of which were finished: no more than their loads.
pub record Takes {A : Type 0} (took : Took) (part : List (Emitted A)) : Type 0 where
  pub ticks : took.ticks ≡ count_ticks part
  pub runs : took.runs ≤ sum_of_loads part

-- Beside these stand runs of a propagation that was cut off.
pub record TakesMore {A : Type 0} (took : Took) (part : List (Emitted A)) : Type 0 where
  pub ticks : took.ticks ≡ count_ticks part
  pub finished : ℕ
  pub cut_off : ℕ
  pub runs : took.runs ≡ finished + cut_off
  pub loads : finished ≤ sum_of_loads part

-- all the work that it may do
pub record SpendsWork {A : Type 0} (work : ℕ) (took : Took) (part : List (Emitted A)) : Type 0 where
  pub used : took.runs ≡ work
  pub takes : TakesMore took part

-- what it took where it ended so, with so much work that it may do
abbrev pub TakesAt : {A : Type 0} → ℕ → QueryEnd → Took → List (Emitted A) → Type 0
TakesAt work WorkSpent took part = SpendsWork work took part
TakesAt work ending took part = Takes took part
