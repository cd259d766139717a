-- The laws of the paths of the core language. (Own.)
use Rattle.std.specs.Prelude.{◌≡◌, ◌≢◌, ℕ, ◌≤◌, true, false, List, [], ◌++◌, length, Contains, IsTrue, AllPairs}
use Rattle.pi_terms.specs.Tree.{Trees, tree_count}
use Rattle.pi_constraints.specs.State.{State}
use Rattle.pi_core.specs.GoalTree.{GoalTree}
use Rattle.pi_core.specs.CoreTree.{backtracks, ClauseTree, PredTree, QueryTree}
use Rattle.pi_traces.specs.Trace.{Trace, then, one, answers}
use Rattle.pi_settling.specs.SolveCalls.{is_solve}
use Rattle.pi_meaning.specs.Shared.Level.{Level}
use Rattle.pi_meaning.specs.Shared.View.{View}
use Rattle.pi_meaning.specs.CoreMeaning.Sound.{IsSound}
use Rattle.pi_meaning.specs.CoreMeaning.Instances.{whole}
use Rattle.pi_meaning.specs.CoreMeaning.Meaning.{meaning}
use Rattle.pi_meaning.specs.CoreMeaning.Run.{Solution, query_trace}
use Rattle.pi_resume_spec.specs.Ways.{Way, Ways, Apart}
use Rattle.pi_resume_spec.specs.Resumed.{Search, resumed, At, Leads, IsResumable}
use Rattle.pi_resume_spec.specs.Searches.{Searches, SearchLevel, bottom, above, Spot, point_of, plain_level, without_paths}
use Rattle.pi_resume_spec.specs.ByName.{LaterSearches, built_searches, all_names}
use Rattle.pi_resume_spec.specs.Goals.{search}
use Rattle.pi_resume_spec.specs.Queries.{query_search}

-- ---- what is asked of later stages

abbrev pub OneAtMost : {A : Type 0} → Trace A → Type 0
OneAtMost t = length (answers t) ≤ 1

-- paths lead apart, and each of them leads to its answer
pub record IsGuided {A : Type 0} (s : Search A) : Type 0 where
  pub apart : Apart s.ways
  pub resumes : IsResumable s

-- so it is of all calls and of draining, at a level and at each lower one
pub record AreGuided (c : Searches) : Type 0 where
  pub called : (name : List ℕ) (ts : Trees) (s : State) → IsGuided (c.called name ts s)
  pub applied : (name : List ℕ) (ts : Trees) (s : State) → OneAtMost (c.applied name ts s)
  pub drained : (s : State) → IsGuided (c.drained s)

unfoldable pub IsGuidedLevel : SearchLevel → Type 0
IsGuidedLevel (bottom c) = AreGuided c
IsGuidedLevel (above c l) = AreGuided c × IsGuidedLevel l

-- What later stages owe: `solve` with its paths is what it is without them, and is guided where the calls are; every other goal of theirs has one answer at most.
pub record IsLater (later : LaterSearches) : Type 0 where
  pub plain : (v : View) (l : SearchLevel) (name : List ℕ) (ts : Trees) (s : State) → is_solve name (tree_count ts) ≡ true →
      without_paths (later.solves v l name ts s) ≡ later.plain.predicate v (plain_level l) name ts s
  pub guided : (v : View) (l : SearchLevel) → IsGuidedLevel l → (name : List ℕ) (ts : Trees) (s : State) → is_solve name (tree_count ts) ≡ true → IsGuided (later.solves v l name ts s)
  pub others : (v : View) (l : Level) (name : List ℕ) (ts : Trees) (s : State) → is_solve name (tree_count ts) ≡ false → OneAtMost (later.plain.predicate v l name ts s)
  pub functions : (name : List ℕ) (ts : Trees) (s : State) → OneAtMost (later.plain.function name ts s)

-- a quiet predicate, which is made for a loop, has committed rules alone, as in each sound program
abbrev pub QuietIsCommitted : List PredTree → Type 0
QuietIsCommitted preds = (pred : PredTree) → Contains preds pred → IsTrue pred.quiet → (c : ClauseTree) → Contains pred.clauses c → backtracks c.back c.watches ≡ false

-- ---- laws

-- what is built of them meets this; and sound programs meet the premise on quiet predicates
abbrev pub BuiltIsLater : Type 0
BuiltIsLater = IsLater built_searches

abbrev pub SoundIsCommitted : Type 0
SoundIsCommitted = (preds : List PredTree) → IsSound preds → QuietIsCommitted preds

-- without its paths a query's search is its trace, at each depth
abbrev pub PathsAddNothing : Type 0
PathsAddNothing = (v : View) (later : LaterSearches) → IsLater later → (program : List PredTree) (q : QueryTree) → QuietIsCommitted (program ++ q.helpers) → (d : ℕ) →
    without_paths (query_search (all_names v later (program ++ q.helpers)) program q d) ≡ query_trace (whole v later.plain (program ++ q.helpers)) program q d

-- and so is each goal's, from each place
abbrev pub GoalsAddNothing : Type 0
GoalsAddNothing = (v : View) (later : LaterSearches) → IsLater later → (preds : List PredTree) (g : GoalTree) (p : Spot) →
    then (without_paths (search (all_names v later preds) g p)) (λ q. one (point_of q)) ≡ meaning (whole v later.plain preds) g (point_of p)

-- no two answers of a query have one path; none goes on with another
abbrev pub AnswersHaveTheirPaths : Type 0
AnswersHaveTheirPaths = (v : View) (later : LaterSearches) → IsLater later → (program : List PredTree) (q : QueryTree) (d : ℕ) →
    let t : Ways Solution = (query_search (all_names v later (program ++ q.helpers)) program q d).ways in
    Apart t × AllPairs (λ w u. w.path ≢ u.path) (answers t)

-- The run that is resumed behind the answer with a path comes to that answer, and what stands behind it there is what stands behind it in the query's trace, with the same states.
abbrev pub RunsResume : Type 0
RunsResume = (v : View) (later : LaterSearches) → IsLater later → (program : List PredTree) (q : QueryTree) (d : ℕ) (w : Way Solution) (rest : Ways Solution) →
    At (query_search (all_names v later (program ++ q.helpers)) program q d).ways w rest →
    Leads (resumed ((query_search (all_names v later (program ++ q.helpers)) program q d).follows w.path)) w.path w.answer [] rest
