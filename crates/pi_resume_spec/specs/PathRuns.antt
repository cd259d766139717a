-- The runs that tell paths: a query's run in which each answer has its path, and its resumed run behind the answer of a path, at a depth that reaches to the cut. A path that is
-- too long is an exception in place of its answer. (Own.)
use Rattle.std.specs.Prelude.{◌≡◌, ◌++◌, ℕ, List}
use Rattle.pi_core.specs.CoreTree.{PredTree, QueryTree}
use Rattle.pi_core.specs.declared.log.LogEntry.{LogEntry}
use Rattle.pi_traces.specs.Depth.{Cut, cut, CutWithoutDeep}
use Rattle.pi_meaning.specs.Shared.View.{query_view}
use Rattle.pi_meaning.specs.CoreMeaning.Run.{Solution}
use Rattle.pi_resume.specs.Token.{most_numbers}
use Rattle.pi_resume_spec.specs.Ways.{Way, Ways}
use Rattle.pi_resume_spec.specs.Resumed.{Following}
use Rattle.pi_resume_spec.specs.Longest.{told_paths, told_behind}
use Rattle.pi_resume_spec.specs.ResumedCut.{ResumedCut, resumed_cut, ResumedWithoutDeep}
use Rattle.pi_resume_spec.specs.ByName.{Offers, built_searches, all_names}
use Rattle.pi_resume_spec.specs.Queries.{query_search, resumed_query}

-- what a program does with a query, with paths of so many numbers at most, at a depth
abbrev pub path_trace : ℕ → Offers → List PredTree → QueryTree → ℕ → Ways Solution
path_trace most b program q depth = told_paths most (query_search b program q depth).ways

-- and what it does behind the answer of a path
abbrev pub resumed_trace : ℕ → Offers → List PredTree → QueryTree → List ℕ → ℕ → Following Solution
resumed_trace most b program q path depth = told_behind most (resumed_query b program q depth path)

-- the run, before Tick number n + 1
pub record IsPathRunUnder (most : ℕ) (b : Offers) (program : List PredTree) (q : QueryTree) (n : ℕ) (c : Cut (Way Solution)) : Type 0 where
  pub depth : ℕ
  pub reaches : CutWithoutDeep n (path_trace most b program q depth)
  pub is_cut : c ≡ cut n (path_trace most b program q depth)

-- and the resumed run, before Tick number n + 1, where those on its way are counted
pub record IsResumedRunUnder (most : ℕ) (b : Offers) (program : List PredTree) (q : QueryTree) (path : List ℕ) (n : ℕ) (c : ResumedCut (Way Solution)) : Type 0 where
  pub depth : ℕ
  pub reaches : ResumedWithoutDeep n (resumed_trace most b program q path depth)
  pub is_cut : c ≡ resumed_cut n (resumed_trace most b program q path depth)

-- These with all names of the language, with what is built of later stages, under a log of planner calls, where none is being answered. The longest path that is told is the longest
-- one that has a text.
abbrev pub IsPathRun : List PredTree → QueryTree → List LogEntry → ℕ → Cut (Way Solution) → Type 0
IsPathRun program q log n c = IsPathRunUnder most_numbers (all_names (query_view log) built_searches (program ++ q.helpers)) program q n c

abbrev pub IsResumedRun : List PredTree → QueryTree → List LogEntry → List ℕ → ℕ → ResumedCut (Way Solution) → Type 0
IsResumedRun program q log path n c = IsResumedRunUnder most_numbers (all_names (query_view log) built_searches (program ++ q.helpers)) program q path n c
