-- What a solver tells of the queries that it was asked: the planner calls that each entered, and the bounds of its work. (Own.)
use Rattle.std.specs.Prelude.{◌≡◌, ℕ, ◌+◌, ◌*◌, ◌≤◌, Bool, List, [], ◌∷◌, take, drop, length, sum_by, All, Contains}
use Rattle.pi_traces.specs.Trace.{Call}
use Rattle.pi_core.specs.declared.log.Entered.{Entered}
use Rattle.pi_core.specs.declared.log.LogEntry.{LogEntry}
use Rattle.pi_core.specs.declared.log.Work.{Work}
use Rattle.pi_meaning.specs.Shared.View.{call_of}
use Rattle.pi_settling.specs.Runs.{work_of}
use Rattle.pi_solve_spec.specs.Bodies.{Bodies}
use Rattle.pi_solve_spec.specs.Calls.{Query, ReachesToCut, IsWanted}
use Rattle.pi_solve_spec.specs.Counted.{loads_of, its_ticks, its_loads, Expansion, AtMostEach, AreExpanded, ReachesAtMost, AreDifferent, ChainsAtMost}

-- the planner calls of a program: what its bodies do, and whether it is by rests
pub record Planning : Type 0 where
  pub bodies : Bodies
  pub by_rests : Bool

-- ---- what is told

-- of a query: how many entries the log had and how many calls had been entered when it was asked, and its work
pub record QueryCounts : Type 0 where
  pub known : ℕ
  pub first : ℕ
  pub work : Work

-- that, with the log and the calls that were entered as the query left them
pub record Told : Type 0 where
  pub log : List LogEntry
  pub entered : List Call
  pub query : QueryCounts

abbrev pub call_entered : Entered → Call
call_entered e = record { best = e.best; start = e.start; limit = e.limit }

-- Of each query of a list, in order, under the whole log and all calls that were entered: what the next one found is what it left, and the last one left all.
unfoldable pub told_of_each : List LogEntry → List Call → List QueryCounts → List Told
told_of_each log entered [] = []
told_of_each log entered (q ∷ []) = record { log = log; entered = entered; query = q } ∷ []
told_of_each log entered (q ∷ next ∷ others) =
    record { log = take next.known log; entered = take next.first entered; query = q } ∷ told_of_each log entered (next ∷ others)

-- the calls that the query entered, and the entries that it added to the log
abbrev pub calls_entered : Told → List Call
calls_entered t = drop t.query.first t.entered

abbrev pub entries_added : Told → List LogEntry
entries_added t = drop t.query.known t.log

-- ---- entered calls: each is wanted, none stands there twice, and the call of each entry that the query added is among them

pub record EntersRightly {A : Type 0} (p : Planning) (q : Query A) (t : Told) : Type 0 where
  pub wanted : All (IsWanted p.bodies q t.query.known t.log) (calls_entered t)
  pub once : AreDifferent (calls_entered t)
  pub added : All (λ e. Contains (calls_entered t) (call_of e)) (entries_added t)

-- ---- the bounds of work

-- no more Ticks than the expanded pairs have, each with at most so many
abbrev pub GoalsAreBounded : Planning → Told → List Expansion → Type 0
GoalsAreBounded p t expanded = (ticks : ℕ) → AtMostEach its_ticks p.bodies t.log expanded ticks → t.query.work.goals ≤ t.query.work.expansions * ticks

-- the sum of the loads in the query's run, at a depth; it is the same at each that reaches to the cut
abbrev pub run_loads : {A : Type 0} → Query A → List LogEntry → ℕ → ℕ
run_loads q log depth = loads_of (q log depth).events

-- no more runs than this, and than the loads of the expanded pairs, each with at most so many
abbrev pub RunsAreBounded : {A : Type 0} → Planning → Query A → Told → List Expansion → Type 0
RunsAreBounded p q t expanded =
    (depth loads : ℕ) → ReachesToCut q t.log depth → AtMostEach its_loads p.bodies t.log expanded loads → t.query.work.runs ≤ run_loads q t.log depth + t.query.work.expansions * loads

-- no more pairs are expanded than the entered calls reach, together: of each the different states that it reaches, by rests the different pairs
abbrev pub ExpansionsAreBounded : Planning → Told → Type 0
ExpansionsAreBounded p t =
    (reached : Call → ℕ) → All (λ c. ReachesAtMost p.by_rests p.bodies t.log c (reached c)) (calls_entered t) → t.query.work.expansions ≤ sum_by reached (calls_entered t)

-- The work of a query keeps to its bounds: as many pairs as are counted were expanded, each by an entered call that reaches it and by none twice, and these bound what else is counted.
pub record KeepsToBounds {A : Type 0} (p : Planning) (q : Query A) (t : Told) : Type 0 where
  pub expanded : List Expansion
  pub number : t.query.work.expansions ≡ length expanded
  pub are_expanded : AreExpanded p.by_rests p.bodies t.log (calls_entered t) expanded
  pub goals : GoalsAreBounded p t expanded
  pub runs : RunsAreBounded p q t expanded
  pub expansions : ExpansionsAreBounded p t

-- numbers that bound the work of a query that expanded these pairs: the Ticks and the loads of the bodies of each, the depth at which its run is taken, and what each call reaches
pub record Limits {A : Type 0} (p : Planning) (q : Query A) (t : Told) (expanded : List Expansion) : Type 0 where
  pub ticks : ℕ
  pub loads : ℕ
  pub depth : ℕ
  pub reached : Call → ℕ
  pub ticks_bound : AtMostEach its_ticks p.bodies t.log expanded ticks
  pub loads_bound : AtMostEach its_loads p.bodies t.log expanded loads
  pub depth_reaches : ReachesToCut q t.log depth
  pub reached_bound : All (λ c. ReachesAtMost p.by_rests p.bodies t.log c (reached c)) (calls_entered t)

-- the sum of the bounds of goals, runs and expansions, where so many pairs are expanded at most
abbrev pub most_work : ℕ → ℕ → ℕ → ℕ → ℕ
most_work expansions ticks loads in_run = expansions * ticks + (in_run + expansions * loads) + expansions

-- a budget is spent where the work has come to it
abbrev pub IsSpent : ℕ → Work → Type 0
IsSpent budget work = work_of work ≡ budget

-- ---- evaluations at one time

-- what is told since the solver was made: the regions that its pool made, and the greatest number of evaluations that were open at one time, the query's own among them
pub record Nests : Type 0 where
  pub regions_made : ℕ
  pub deepest : ℕ

abbrev pub RegionsKeepToNests : Nests → Type 0
RegionsKeepToNests n = n.regions_made ≤ n.deepest

-- besides the query's own there are at most as many as the longest chain of different calls that were entered has calls
abbrev pub NestsKeepToChains : Planning → List LogEntry → List Call → Nests → Type 0
NestsKeepToChains p log entered n = (chain : ℕ) → ChainsAtMost p.bodies log entered chain → n.deepest ≤ 1 + chain
