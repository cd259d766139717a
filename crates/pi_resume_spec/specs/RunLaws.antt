-- The laws of resumed runs that are cut, and of paths that are too long.
use Rattle.std.specs.Prelude.{◌≡◌, ◌≢◌, ℕ, suc, ◌+◌, ◌<◌, ◌≤◌, List, [], ◌++◌, length, All}
use Rattle.pi_core.specs.CoreTree.{PredTree, QueryTree}
use Rattle.pi_core.specs.declared.log.LogEntry.{LogEntry}
use Rattle.pi_traces.specs.Trace.{end, ans, End, Call, Miss, done, Emitted, emit, answers}
use Rattle.pi_traces.specs.Depth.{DepthOnlyAdds, Ended, Spent, Cut, cut}
use Rattle.pi_meaning.specs.Shared.View.{View, query_view}
use Rattle.pi_meaning.specs.CoreMeaning.Sound.{IsSoundQuery}
use Rattle.pi_meaning.specs.CoreMeaning.Run.{Solution}
use Rattle.pi_solve_spec.specs.Calls.{ReachesToCut, Asks}
use Rattle.pi_solve_spec.specs.Counted.{loads_of}
use Rattle.pi_solve_spec.specs.WorkBounds.{run_loads}
use Rattle.pi_resume_spec.specs.Ways.{Way, Ways}
use Rattle.pi_resume_spec.specs.Resumed.{Following, At, Leads}
use Rattle.pi_resume_spec.specs.Longest.{path_too_long, told_paths}
use Rattle.pi_resume_spec.specs.ResumedCut.{stops, bad_path, ResumedCut, behind_way, resumed_cut, ResumedWithoutDeep, passings, ticks_among, with_passings, IsBad, IsCutOff}
use Rattle.pi_resume_spec.specs.ByName.{LaterSearches, Offers, built_searches, all_names}
use Rattle.pi_resume_spec.specs.Queries.{query_search, resumed_query}
use Rattle.pi_resume_spec.specs.PathRuns.{path_trace, resumed_trace, IsPathRunUnder, IsResumedRunUnder}
use Rattle.pi_resume_spec.specs.ResumedWork.{loads_among, query_behind}
use Rattle.pi_resume_spec.specs.LanguageLaws.{IsLater}
use Rattle.pi_resume_spec.specs.More.{FollowsBelow, OffersOnlyAdd, LaterSearchesAdd}

-- ---- paths that are too long

abbrev pub IsShort : {A : Type 0} → ℕ → Way A → Type 0
IsShort most w = length w.path ≤ most

-- no answer with a longer path is given
abbrev pub ToldPathsAreShort : Type 0 → Type 0
ToldPathsAreShort A = (most : ℕ) (t : Ways A) → All (IsShort most) (answers (told_paths most t))

-- where there is none, nothing is changed
abbrev pub ShortPathsAreTold : Type 0 → Type 0
ShortPathsAreTold A = (most : ℕ) (t : Ways A) → All (IsShort most) (answers t) → told_paths most t ≡ t

-- the exception stands in place of the first one, and of all that is behind it
abbrev pub TheFirstLongPathEnds : Type 0 → Type 0
TheFirstLongPathEnds A = (most : ℕ) (events : List (Emitted (Way A))) (w : Way A) (rest : Ways A) → All (IsShort most) (answers (emit events done)) → most < length w.path →
    told_paths most (emit events (ans w rest)) ≡ emit events (end path_too_long)

-- ---- cuts

-- with fewer Ticks than its way has, a resumed run is spent on the way
abbrev pub SpentOnTheWay : Type 0 → Type 0
SpentOnTheWay A = (n : ℕ) (f : Following A) → n < ticks_among (passings f) → (resumed_cut n f).stop ≡ stops Spent

-- with as many, and n more, it is what counts on the way, and then what stands behind the answer, cut before its Tick number n + 1
abbrev pub CutBehindTheWay : Type 0 → Type 0
CutBehindTheWay A = (n : ℕ) (f : Following A) (path : List ℕ) (x : A) (left : List ℕ) (rest : Ways A) → Leads f path x left rest →
    resumed_cut (ticks_among (passings f) + n) f ≡ with_passings (passings f) (behind_way (cut n rest))

-- a path is bad exactly where the way ends without the answer of the path, and wasn't spent before
abbrev pub BadExactlyAtTheEnd : Type 0 → Type 0
BadExactlyAtTheEnd A = (n : ℕ) (f : Following A) →
    ((resumed_cut n f).stop ≡ bad_path → IsBad f × (ticks_among (passings f) ≤ n)) × (IsBad f → ticks_among (passings f) ≤ n → (resumed_cut n f).stop ≡ bad_path)

-- where the way ends in a missing planner call, or where the depth doesn't reach further, that is the run's end
abbrev pub EndsOnTheWay : Type 0 → Type 0
EndsOnTheWay A = (n : ℕ) (f : Following A) (e : End) → IsCutOff f e → ticks_among (passings f) ≤ n → (resumed_cut n f).stop ≡ stops (Ended e)

-- where the depth reaches to a cut, more depth leaves the cut as it is
abbrev pub MoreDepthLeavesCuts : Type 0 → Type 0
MoreDepthLeavesCuts A = (n : ℕ) (f g : Following A) → FollowsBelow f g → ResumedWithoutDeep n f → resumed_cut n f ≡ resumed_cut n g

-- ---- more depth only adds

-- to what names do, where it does to what later stages give; and to that where none is there
abbrev pub NamesOnlyAdd : Type 0
NamesOnlyAdd = (v : View) (later : LaterSearches) → LaterSearchesAdd later → (preds : List PredTree) → OffersOnlyAdd (all_names v later preds)

abbrev pub BuiltSearchesAdd : Type 0
BuiltSearchesAdd = LaterSearchesAdd built_searches

-- each depth adds to a query's ways, and to what it does by a path, at the depth before
abbrev pub PathsDoMore : Type 0
PathsDoMore = (b : Offers) → OffersOnlyAdd b → (program : List PredTree) (q : QueryTree) → DepthOnlyAdds (λ d. (query_search b program q d).ways)

abbrev pub QueriesFollowMore : Type 0
QueriesFollowMore = (b : Offers) → OffersOnlyAdd b → (program : List PredTree) (q : QueryTree) (path : List ℕ) (d : ℕ) →
    FollowsBelow (resumed_query b program q d path) (resumed_query b program q (suc d) path)

-- all depths that reach to a cut give the same run, and so does each greater depth
abbrev pub PathRunIsOne : Type 0
PathRunIsOne = (most : ℕ) (b : Offers) → OffersOnlyAdd b → (program : List PredTree) (q : QueryTree) (n : ℕ) (c d : Cut (Way Solution)) →
    IsPathRunUnder most b program q n c → IsPathRunUnder most b program q n d → c ≡ d

abbrev pub DeeperPathRuns : Type 0
DeeperPathRuns = (most : ℕ) (b : Offers) → OffersOnlyAdd b → (program : List PredTree) (q : QueryTree) (n : ℕ) (c : Cut (Way Solution)) (r : IsPathRunUnder most b program q n c) (more : ℕ) →
    cut n (path_trace most b program q (r.depth + more)) ≡ c

abbrev pub ResumedRunIsOne : Type 0
ResumedRunIsOne = (most : ℕ) (b : Offers) → OffersOnlyAdd b → (program : List PredTree) (q : QueryTree) (path : List ℕ) (n : ℕ) (c d : ResumedCut (Way Solution)) →
    IsResumedRunUnder most b program q path n c → IsResumedRunUnder most b program q path n d → c ≡ d

abbrev pub DeeperResumedRuns : Type 0
DeeperResumedRuns = (most : ℕ) (b : Offers) → OffersOnlyAdd b → (program : List PredTree) (q : QueryTree) (path : List ℕ) (n : ℕ) (c : ResumedCut (Way Solution))
    (r : IsResumedRunUnder most b program q path n c) (more : ℕ) → resumed_cut n (resumed_trace most b program q path (r.depth + more)) ≡ c

-- ---- resuming

-- Behind an answer that the run tells, the resumed run gives what stands behind that answer in the run, with the same states.
abbrev pub ToldRunsResume : Type 0
ToldRunsResume = (most : ℕ) (v : View) (later : LaterSearches) → IsLater later → (program : List PredTree) (q : QueryTree) (d : ℕ) (w : Way Solution) (rest : Ways Solution) →
    At (path_trace most (all_names v later (program ++ q.helpers)) program q d) w rest →
    Leads (resumed_trace most (all_names v later (program ++ q.helpers)) program q w.path d) w.path w.answer [] rest

-- So it is where both are cut: first stands what counts on the way.
abbrev pub CutRunsResume : Type 0
CutRunsResume = (most : ℕ) (v : View) (later : LaterSearches) → IsLater later → (program : List PredTree) (q : QueryTree) (d : ℕ) (w : Way Solution) (rest : Ways Solution) →
    At (path_trace most (all_names v later (program ++ q.helpers)) program q d) w rest → (n : ℕ) →
    let f : Following Solution = resumed_trace most (all_names v later (program ++ q.helpers)) program q w.path d in
    resumed_cut (ticks_among (passings f) + n) f ≡ with_passings (passings f) (behind_way (cut n rest))

-- and the path of an answer that the run tells is never bad
abbrev pub ToldPathsAreGood : Type 0
ToldPathsAreGood = (most : ℕ) (v : View) (later : LaterSearches) → IsLater later → (program : List PredTree) (q : QueryTree) (d : ℕ) (w : Way Solution) (rest : Ways Solution) →
    At (path_trace most (all_names v later (program ++ q.helpers)) program q d) w rest → (n : ℕ) →
    (resumed_cut n (resumed_trace most (all_names v later (program ++ q.helpers)) program q w.path d)).stop ≢ bad_path

-- ---- each sound query has its run, with what is built of later stages

abbrev pub SoundQueriesTellPaths : Type 0
SoundQueriesTellPaths = (most : ℕ) (v : View) (program : List PredTree) (q : QueryTree) → IsSoundQuery program q → (n : ℕ) →
    (c : Cut (Way Solution)) × IsPathRunUnder most (all_names v built_searches (program ++ q.helpers)) program q n c

-- and its resumed run from each path
abbrev pub SoundQueriesAreResumed : Type 0
SoundQueriesAreResumed = (most : ℕ) (v : View) (program : List PredTree) (q : QueryTree) → IsSoundQuery program q → (path : List ℕ) (n : ℕ) →
    (c : ResumedCut (Way Solution)) × IsResumedRunUnder most (all_names v built_searches (program ++ q.helpers)) program q path n c

-- and so that has a depth that reaches to the cut, as a query, under each log
abbrev pub SoundQueriesReach : Type 0
SoundQueriesReach = (program : List PredTree) (q : QueryTree) → IsSoundQuery program q → (path : List ℕ) (steps : ℕ) (log : List LogEntry) →
    (depth : ℕ) × ReachesToCut (query_behind built_searches program q path steps) log depth

-- ---- the work of a resumed run

-- all depths that reach to the cut give the same run
abbrev pub QueriesBehindAreOne : Type 0
QueriesBehindAreOne = (later : LaterSearches) → LaterSearchesAdd later → (program : List PredTree) (q : QueryTree) (path : List ℕ) (steps : ℕ) (log : List LogEntry) (depth other : ℕ) →
    ReachesToCut (query_behind later program q path steps) log depth → ReachesToCut (query_behind later program q path steps) log other →
    query_behind later program q path steps log depth ≡ query_behind later program q path steps log other

-- its loads are those of the way, and those behind the answer of the path
abbrev pub LoadsOfTheWayCount : Type 0
LoadsOfTheWayCount = (later : LaterSearches) (program : List PredTree) (q : QueryTree) (path : List ℕ) (n : ℕ) (log : List LogEntry) (depth : ℕ) (x : Solution) (rest : Ways Solution) →
    let f : Following Solution = resumed_query (all_names (query_view log) later (program ++ q.helpers)) program q depth path in
    Leads f path x [] rest → run_loads (query_behind later program q path (ticks_among (passings f) + n)) log depth ≡ loads_among (passings f) + loads_of (cut n rest).events

-- a call that is missing on the way is asked for
abbrev pub AskedOnTheWay : Type 0
AskedOnTheWay = (later : LaterSearches) (program : List PredTree) (q : QueryTree) (path : List ℕ) (steps known : ℕ) (log : List LogEntry) (depth : ℕ) (c : Call) →
    let f : Following Solution = resumed_query (all_names (query_view log) later (program ++ q.helpers)) program q depth path in
    IsCutOff f (Miss c) → ticks_among (passings f) ≤ steps → known ≤ length log → Asks (query_behind later program q path steps) known log c
