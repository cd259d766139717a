-- What a call of `next` comes to, for those that use a machine: notes that it adds to the run's events, and then its answer,
-- its output, or where the run stops.
use Rattle.std.specs.Prelude.{◌≡◌, ◌⊎◌, ◌≤◌, ℕ, ◌+◌, List, [], ◌∷◌, ◌++◌, Option, Some, None, ⊤}
use Rattle.pi_traces.specs.Trace.{End, Done, Note, Tick, Load, Out, Emitted, noted, answered, count_ticks}
use Rattle.pi_traces.specs.Depth.{Cut, Spent, with_events}
use Rattle.pi_meaning.specs.Shared.View.{View}
use Rattle.pi_meaning.specs.CoreMeaning.Instances.{built_later, whole}
use Rattle.pi_meaning.specs.CoreMeaning.Run.{Solution, IsRunUnder}
use Rattle.pi_core.specs.CoreTree.{PredTree, QueryTree}
use Rattle.pi_meaning.specs.declared.happening.Budget.{Budget}
use Rattle.pi_meaning.specs.declared.happening.Happening.{Happening}
use Rattle.pi_meaning.specs.declared.happening.Mode.{Mode}
use Rattle.pi_meaning.specs.Machine.Budget.{AreStepsUsed, IsWorkUsed}
use Rattle.pi_meaning.specs.Machine.Next.{Tells}
use Rattle.pi_engine_stands.specs.Goes.{counted}
use Rattle.pi_engine.specs.Needs.{asked_for, Needs}
use Rattle.pi_engine.specs.Seen.{MachineView, mode_of, stopped, IsException, IsWork}
use Rattle.pi_engine.specs.Runs.{RunsTo, EndsWith}

-- ---- what is added in front

-- Ticks and loads, which have no happening of their own
unfoldable pub AreTicksAndLoads : List (Emitted Solution) → Type 0
AreTicksAndLoads [] = ⊤
AreTicksAndLoads (noted Tick ∷ notes) = AreTicksAndLoads notes
AreTicksAndLoads (noted (Load k) ∷ notes) = AreTicksAndLoads notes
AreTicksAndLoads (event ∷ notes) = ⊥

-- the sum of the loads
unfoldable pub sum_of_loads : {A : Type 0} → List (Emitted A) → ℕ
sum_of_loads [] = 0
sum_of_loads (noted (Load k) ∷ notes) = k + sum_of_loads notes
sum_of_loads (event ∷ notes) = sum_of_loads notes

-- runs of propagators in a propagation that isn't finished: there is none but where work is spent or memory is wanted
abbrev pub AreCutOff : Happening → ℕ → Type 0
AreCutOff Happening.WorkSpent runs = ⊤
AreCutOff Happening.Memory runs = ⊤
AreCutOff happening runs = runs ≡ 0

-- What a call adds: as many Ticks as it counts, and the loads of the propagations that it finishes. The runs of propagators that it
-- counts are those of these propagations, no more than the loads, and those of one that is cut off.
pub record Adds (mode : Mode) (old new : Budget) (happening : Happening) (notes : List (Emitted Solution)) : Type 0 where
  pub kinds : AreTicksAndLoads notes
  pub ticks : count_ticks notes ≡ counted mode old new
  pub finished : ℕ
  pub cut_off : ℕ
  pub runs : new.work.runs ≡ old.work.runs + finished + cut_off
  pub loads : finished ≤ sum_of_loads notes
  pub others : AreCutOff happening cut_off

-- ---- what comes behind it

-- these events are all that stands before a Tick; each run that is cut behind them goes on with this load
abbrev pub StandsBefore : View → List PredTree → QueryTree → List (Emitted Solution) → Note → Type 0
StandsBefore v program q events Tick = IsRunUnder (whole v built_later (program ++ q.helpers)) program q (count_ticks events) (record { events = events; stop = Spent })
StandsBefore v program q events (Load k) =
    (n : ℕ) (run : Cut Solution) → IsRunUnder (whole v built_later (program ++ q.helpers)) program q (count_ticks events + n) run → (rest : Cut Solution) × (run ≡ with_events (events ++ noted (Load k) ∷ []) rest)
StandsBefore v program q events (Out text) = ⊥

-- the run stops in front of a note for which the budget has no room
pub record StopsBefore {M : Type 0} (v : View) (program : List PredTree) (q : QueryTree) (events : List (Emitted Solution)) (m : MachineView M) (n : Note) : Type 0 where
  pub next : StandsBefore v program q events n
  pub runs : RunsTo v m program q events

-- what runs: the view under which it does, the program and the query
pub record Course : Type 0 where
  pub view : View
  pub program : List PredTree
  pub query : QueryTree

abbrev pub course : View → List PredTree → QueryTree → Course
course v program q = record { view = v; program = program; query = q }

-- What comes behind these events, by what the call answers. Want of memory is no part of a trace: the events begin each run all
-- the same.
abbrev pub Comes : {M : Type 0} → Course → List (Emitted Solution) → MachineView M → Budget → Happening → Type 0
Comes x events after new (Happening.Answer a) = (y : Solution) × Tells x.query.names y a × RunsTo x.view after x.program x.query (events ++ answered y ∷ [])
Comes x events after new (Happening.Out text) = RunsTo x.view after x.program x.query (events ++ noted (Out text) ∷ [])
Comes x events after new (Happening.NeedPlan call) = Needs x.view x.program x.query events after (asked_for call)
Comes x events after new Happening.Done = EndsWith x.view x.program x.query events Done × RunsTo x.view after x.program x.query events
Comes x events after new (Happening.Raised ball) = (e : End) × IsException ball e × EndsWith x.view x.program x.query events e × RunsTo x.view after x.program x.query events
Comes x events after new Happening.StepsSpent = StopsBefore x.view x.program x.query events after Tick × (mode_of after ≡ Mode.Top) × AreStepsUsed new
Comes x events after new Happening.WorkSpent = (n : Note) × IsWork (mode_of after) n × StopsBefore x.view x.program x.query events after n × IsWorkUsed new
Comes x events after new Happening.Memory = RunsTo x.view after x.program x.query events

-- What a call of `next` comes to that repeats no end, where the run had these events before.
pub record Happens {M : Type 0} (v : View) (program : List PredTree) (q : QueryTree) (events : List (Emitted Solution)) (before after : MachineView M) (old new : Budget) (happening : Happening) : Type 0 where
  pub notes : List (Emitted Solution)
  pub adds : Adds (mode_of before) old new happening notes
  pub comes : Comes (course v program q) (events ++ notes) after new happening

-- there are no needs
abbrev pub IsBuiltSoFar : Happening → Type 0
IsBuiltSoFar (Happening.NeedPlan call) = ⊥
IsBuiltSoFar happening = ⊤

-- ---- an end that is answered again

-- the end that a happening is, which each later call answers; None behind an answer, an output or a need
abbrev pub lasting : Happening → Option Happening
lasting (Happening.Answer a) = None
lasting (Happening.Out text) = None
lasting (Happening.NeedPlan call) = None
lasting happening = Some happening

-- An end is answered again, and nothing changes. A ball is copied, for which memory may be wanted: then that is the end, and nothing
-- else changes.
abbrev pub IsRepeated : {M : Type 0} → Happening → MachineView M → MachineView M → Budget → Budget → Happening → Type 0
IsRepeated (Happening.Raised ball) old new b c again = (((again ≡ Happening.Raised ball) × (new ≡ old)) ⊎ ((again ≡ Happening.Memory) × (new ≡ stopped old))) × (c ≡ b)
IsRepeated end old new b c again = (again ≡ end) × (new ≡ old) × (c ≡ b)
