-- The laws of wanted calls and of the bounds of work.
use Rattle.std.specs.Prelude.{◌≡◌, ◌≢◌, ℕ, ◌+◌, ◌≤◌, ◌<◌, Bool, List, [], ◌++◌, length, sum_by, All}
use Rattle.pi_terms.specs.Tree.{Tree}
use Rattle.pi_traces.specs.Trace.{Trace, Call, Miss, Emitted, ticks}
use Rattle.pi_traces.specs.Depth.{Below, Ended}
use Rattle.pi_core.specs.declared.log.LogEntry.{LogEntry}
use Rattle.pi_settling.specs.Runs.{work_of}
use Rattle.pi_solve_spec.specs.Bodies.{Bodies}
use Rattle.pi_solve_spec.specs.Steps.{CallReaches}
use Rattle.pi_solve_spec.specs.Calls.{Query, ReachesToCut, Edge, Reach, IsWanted}
use Rattle.pi_solve_spec.specs.Counted.{loads_of, loads, its_ticks, its_loads, AtMostUnder, AtMost, AtMostEach, Expansion, AreExpanded, ReachesAtMost, ChainsAtMost}
use Rattle.pi_solve_spec.specs.Known.{MoreKnown, AreBodies}
use Rattle.pi_solve_spec.specs.WorkBounds.{Planning, Told, calls_entered, entries_added, EntersRightly, run_loads, KeepsToBounds, Limits, most_work, IsSpent}

-- ---- wanted calls

-- edges, chains and wanted calls stay under each longer log
abbrev pub EdgesStay : Type 0
EdgesStay = (b : Bodies) (least : ℕ) (log more : List LogEntry) (c d : Call) → Edge b least log c d → Edge b least (log ++ more) c d

abbrev pub ChainsStay : Type 0
ChainsStay = (b : Bodies) (least : ℕ) (log more : List LogEntry) (c d : Call) → Reach b least log c d → Reach b least (log ++ more) c d

abbrev pub WantedStaysWanted : Type 0 → Type 0
WantedStaysWanted A = (b : Bodies) (q : Query A) (known : ℕ) (log more : List LogEntry) (c : Call) → IsWanted b q known log c → IsWanted b q known (log ++ more) c

-- a query whose run ends where a call is missing under no log wants none
abbrev pub WantsNothing : {A : Type 0} → Query A → Type 0
WantsNothing q = (log : List LogEntry) (depth : ℕ) (c : Call) → (q log depth).stop ≢ Ended (Miss c)

abbrev pub NothingIsWanted : Type 0 → Type 0
NothingIsWanted A = (b : Bodies) (q : Query A) (known : ℕ) (log : List LogEntry) (c : Call) → WantsNothing q → IsWanted b q known log c → ⊥

-- so it enters none, adds no entry, and its work is no more than the loads of its run
abbrev pub NothingIsEntered : Type 0 → Type 0
NothingIsEntered A = (p : Planning) (q : Query A) (t : Told) → WantsNothing q → EntersRightly p q t → (calls_entered t ≡ []) × (entries_added t ≡ [])

abbrev pub OnlyRunsAreCounted : Type 0 → Type 0
OnlyRunsAreCounted A = (p : Planning) (q : Query A) (t : Told) (depth : ℕ) → ReachesToCut q t.log depth → KeepsToBounds p q t → calls_entered t ≡ [] → work_of t.query.work ≤ run_loads q t.log depth

-- ---- sums

-- the loads of what comes in two parts
abbrev pub LoadsAdd : Type 0 → Type 0
LoadsAdd A = (first others : List (Emitted A)) → loads_of (first ++ others) ≡ loads_of first + loads_of others

-- more depth and a longer log only add Ticks and loads
abbrev pub DepthAddsCounts : Type 0 → Type 0
DepthAddsCounts A = (t u : Trace A) → Below t u → (ticks t ≤ ticks u) × (loads t ≤ loads u)

abbrev pub KnownAddsCounts : Type 0 → Type 0
KnownAddsCounts A = (t u : Trace A) → MoreKnown t u → (ticks t ≤ ticks u) × (loads t ≤ loads u)

-- what is no less for each call is no less in sum
abbrev pub SumsAreMonotone : Type 0
SumsAreMonotone = (f g : Call → ℕ) (calls : List Call) → All (λ c. f c ≤ g c) calls → sum_by f calls ≤ sum_by g calls

-- ---- bounds

-- what bounds the bodies of a state under the whole log bounds them under each front of it
abbrev pub WholeLogsBound : Type 0
WholeLogsBound = (b : Bodies) (log : List LogEntry) (s : Tree) (r most : ℕ) → AreBodies b →
    (AtMostUnder its_ticks b log s r most → AtMost its_ticks b log s r most) × (AtMostUnder its_loads b log s r most → AtMost its_loads b log s r most)

-- What bounds the bodies of each pair that an entered call reaches bounds those of all that are expanded. So a bound is to be had without knowing which these are.
abbrev pub ReachedBoundsExpanded : Type 0
ReachedBoundsExpanded = (p : Planning) (log : List LogEntry) (calls : List Call) (expanded : List Expansion) (most : ℕ) → AreExpanded p.by_rests p.bodies log calls expanded →
    (All (λ c. (s : Tree) (r : ℕ) → CallReaches p.bodies log c s r → AtMost its_ticks p.bodies log s r most) calls → AtMostEach its_ticks p.bodies log expanded most)
    × (All (λ c. (s : Tree) (r : ℕ) → CallReaches p.bodies log c s r → AtMost its_loads p.bodies log s r most) calls → AtMostEach its_loads p.bodies log expanded most)

-- What calls expand is no more, together, than what they reach.
abbrev pub ExpandedAreReached : Type 0
ExpandedAreReached = (by_rests : Bool) (b : Bodies) (log : List LogEntry) (calls : List Call) (expanded : List Expansion) → AreExpanded by_rests b log calls expanded →
    (reached : Call → ℕ) → All (λ c. ReachesAtMost by_rests b log c (reached c)) calls → length expanded ≤ sum_by reached calls

-- A chain of different calls is no longer than the list from which they come. So no more evaluations are open at one time than one and the calls that were entered.
abbrev pub ChainsAreShort : Type 0
ChainsAreShort = (b : Bodies) (log : List LogEntry) (calls : List Call) → ChainsAtMost b log calls (length calls)

-- The work of a query is at most the sum of its bounds.
abbrev pub WorkIsBounded : Type 0 → Type 0
WorkIsBounded A = (p : Planning) (q : Query A) (t : Told) (keeps : KeepsToBounds p q t) (limits : Limits p q t keeps.expanded) →
    work_of t.query.work ≤ most_work (sum_by limits.reached (calls_entered t)) limits.ticks limits.loads (run_loads q t.log limits.depth)

-- So a budget above it is never spent.
abbrev pub GreaterBudgetsLast : Type 0 → Type 0
GreaterBudgetsLast A = (p : Planning) (q : Query A) (t : Told) (keeps : KeepsToBounds p q t) (limits : Limits p q t keeps.expanded) (budget : ℕ) →
    most_work (sum_by limits.reached (calls_entered t)) limits.ticks limits.loads (run_loads q t.log limits.depth) < budget → IsSpent budget t.query.work → ⊥
