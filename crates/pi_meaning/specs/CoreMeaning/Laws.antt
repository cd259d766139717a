-- The laws of the core meaning: more depth only adds, and so the run of a query is one; with what is built of later stages each query has its run; and where a query calls
-- nothing but built-ins of the tables, that is its run with these alone.
use Rattle.std.specs.Prelude.{◌≡◌, ℕ, suc, ◌+◌, true, false, List, ◌++◌, Option, Some, is_some, length, Contains}
use Rattle.pi_terms.specs.Tree.{Trees, tree_count}
use Rattle.pi_constraints.specs.State.{State, next, PlacesBelow}
use Rattle.pi_core.specs.GoalTree.{GoalTree}
use Rattle.pi_effects.specs.BuiltIns.{is_predicate, is_function}
use Rattle.pi_traces.specs.Trace.{WithoutDeep, answers}
use Rattle.pi_traces.specs.Depth.{DepthOnlyAdds, Cut, cut, CutWithoutDeep}
use Rattle.pi_traces.specs.Related.{BelowBy}
use Rattle.pi_settling.specs.Calm.{IsCalm}
use Rattle.pi_meaning.specs.Shared.View.{View, PlansAreGround}
use Rattle.pi_meaning.specs.Shared.Names.{is_given}
use Rattle.pi_meaning.specs.CoreMeaning.Builtins.{Builtins, BuiltinsOnlyAdd}
use Rattle.pi_meaning.specs.Shared.Given.{Later, LaterOnlyAdds}
use Rattle.pi_meaning.specs.CoreMeaning.Instances.{tabled, built_later, whole}
use Rattle.pi_meaning.specs.CoreMeaning.Defined.{QueryCallsAmong, NamesAreFree}
use Rattle.pi_core.specs.CoreTree.{PredTree, QueryTree}
use Rattle.pi_meaning.specs.Shared.Level.{Level, lower, Point, LevelBelow, PointBelow}
use Rattle.pi_meaning.specs.CoreMeaning.Meaning.{meaning}
use Rattle.pi_meaning.specs.CoreMeaning.Rules.{quiet_level, level_at}
use Rattle.pi_meaning.specs.CoreMeaning.Quiet.{TicksBetween}
use Rattle.pi_meaning.specs.CoreMeaning.Sound.{IsSoundQuery}
use Rattle.pi_meaning.specs.CoreMeaning.Run.{Solution, query_trace, IsRunUnder}

-- ---- more depth only adds

-- to calls by name, with all names of the language, where it does to what later stages give
abbrev pub WholeOnlyAdds : Type 0
WholeOnlyAdds = (v : View) (later : Later) (preds : List PredTree) → LaterOnlyAdds later → BuiltinsOnlyAdd (whole v later preds)

-- each goal does the same and maybe more at a higher level
abbrev pub GoalsDoMore : Type 0
GoalsDoMore = (b : Builtins) → BuiltinsOnlyAdd b → (g : GoalTree) (p q : Point) → PointBelow p q → BelowBy PointBelow (meaning b g p) (meaning b g q)

-- the level of a depth is below that of the next one
abbrev pub LevelsAscend : Type 0
LevelsAscend = (b : Builtins) → BuiltinsOnlyAdd b → (preds : List PredTree) (d : ℕ) → LevelBelow (level_at b preds d) (level_at b preds (suc d))

-- that a level is below another is reflexive and transitive
abbrev pub LevelsAreOrdered : Type 0
LevelsAreOrdered = ((l : Level) → LevelBelow l l) × ((l m n : Level) → LevelBelow l m → LevelBelow m n → LevelBelow l n)

-- the level that a quiet call leads to is still above that of one depth less
abbrev pub QuietCallsStayAbove : Type 0
QuietCallsStayAbove = (b : Builtins) → BuiltinsOnlyAdd b → (preds : List PredTree) (d : ℕ) →
    LevelBelow (level_at b preds d) (quiet_level b preds (Some (level_at b preds d)) (length preds + d))

-- a quiet call takes nothing from the depth: at the level that it leads to, a Tick leads where it led before
abbrev pub QuietCallsKeepTheDepth : Type 0
QuietCallsKeepTheDepth = (b : Builtins) (preds : List PredTree) (below : Option Level) (k : ℕ) → lower (quiet_level b preds below k) ≡ below

-- each depth adds to a query's trace at the depth before
abbrev pub QueriesDoMore : Type 0
QueriesDoMore = (b : Builtins) → BuiltinsOnlyAdd b → (program : List PredTree) (q : QueryTree) → DepthOnlyAdds (query_trace b program q)

-- a trace without Deep is the same at each greater depth
abbrev pub WholeTracesStay : Type 0
WholeTracesStay = (b : Builtins) → BuiltinsOnlyAdd b → (program : List PredTree) (q : QueryTree) (depth more : ℕ) → WithoutDeep (query_trace b program q depth) →
    query_trace b program q depth ≡ query_trace b program q (depth + more)

-- all depths that reach to a cut give the same one
abbrev pub RunIsOne : Type 0
RunIsOne = (b : Builtins) → BuiltinsOnlyAdd b → (program : List PredTree) (q : QueryTree) (n : ℕ) (c d : Cut Solution) →
    IsRunUnder b program q n c → IsRunUnder b program q n d → c ≡ d

abbrev pub DeeperRunsAreTheRun : Type 0
DeeperRunsAreTheRun = (b : Builtins) → BuiltinsOnlyAdd b → (program : List PredTree) (q : QueryTree) (n : ℕ) (c : Cut Solution) (r : IsRunUnder b program q n c) (more : ℕ) →
    cut n (query_trace b program q (r.depth + more)) ≡ c

-- ---- with what is built of later stages, under every view. Under `query_view log` runs are those under a log (`IsRun`).

-- Where Ticks stand between the calls of quiet predicates, there is a depth that reaches to each Tick of a query's trace: also where `call` goes on with terms that a run makes.
abbrev pub DepthReachesTicks : Type 0
DepthReachesTicks = (v : View) (program : List PredTree) (q : QueryTree) → TicksBetween (program ++ q.helpers) → (n : ℕ) →
    (d : ℕ) × CutWithoutDeep n (query_trace (whole v built_later (program ++ q.helpers)) program q d)

-- so each query has its run
abbrev pub EachQueryRuns : Type 0
EachQueryRuns = (v : View) (program : List PredTree) (q : QueryTree) → TicksBetween (program ++ q.helpers) → (n : ℕ) →
    (c : Cut Solution) × IsRunUnder (whole v built_later (program ++ q.helpers)) program q n c

-- and each sound query
abbrev pub SoundQueriesRun : Type 0
SoundQueriesRun = (v : View) (program : List PredTree) (q : QueryTree) → IsSoundQuery program q → (n : ℕ) →
    (c : Cut Solution) × IsRunUnder (whole v built_later (program ++ q.helpers)) program q n c

-- ---- all names of the language

-- with all names of the language just those that it gives do something by themselves, each with its numbers of arguments
abbrev pub WholeKnowsWhatIsGiven : Type 0
WholeKnowsWhatIsGiven = (v : View) (later : Later) (preds : List PredTree) (l : Level) (name : List ℕ) (ts : Trees) (s : State) →
    (is_some ((whole v later preds).predicate l name ts s) ≡ is_given false name (tree_count ts))
    × (is_some ((whole v later preds).function l name ts s) ≡ is_given true name (tree_count ts))

-- ---- the built-ins of the tables alone

-- A query that calls nothing but the tables' built-ins and what its program defines does the same with these built-ins alone as with all names of the language, whatever the view
-- is and whatever later stages give.
abbrev pub TabledIsWhole : Type 0
TabledIsWhole = (v : View) (later : Later) (program : List PredTree) (q : QueryTree) → QueryCallsAmong is_predicate is_function program q → NamesAreFree (program ++ q.helpers) → (d : ℕ) →
    query_trace (whole v later (program ++ q.helpers)) program q d ≡ query_trace (tabled v) program q d

-- ---- the states of a run

-- Where no plan of the log holds a variable, each answer of a sound query has a state from which goals begin, which settling leaves as it is, and its slots hold terms of variables
-- that were made. (No goal reads the log so far.)
abbrev pub RunsKeepStates : Type 0
RunsKeepStates = (v : View) (program : List PredTree) (q : QueryTree) → IsSoundQuery program q → PlansAreGround v → (depth : ℕ) (x : Solution) →
    Contains (answers (query_trace (whole v built_later (program ++ q.helpers)) program q depth)) x → IsCalm x.state × PlacesBelow (next x.state) x.slots
