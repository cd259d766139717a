-- What lowering keeps. A core program keeps the meaning of a program, and a query that of a goal: with all names of the language as built-ins, what they do is what is done over names,
-- whatever the view is, and whatever later stages give that goes by calls and keeps what terms are followed to.
use Rattle.std.specs.Prelude.{◌≡◌, ℕ, List, ◌++◌, is_some, true, false, None}
use Rattle.pi_constraints.specs.State.{State}
use Rattle.pi_syntax.specs.ExpTree.{ExpTree}
use Rattle.pi_syntax.specs.ProgramTree.{ProgramTree}
use Rattle.pi_core.specs.CoreTree.{PredTree, find_pred, QueryTree}
use Rattle.pi_traces.specs.Trace.{Trace, then}
use Rattle.pi_traces.specs.Depth.{Cut}
use Rattle.pi_meaning.specs.Shared.View.{View}
use Rattle.pi_meaning.specs.CoreMeaning.Builtins.{Builtins}
use Rattle.pi_meaning.specs.CoreMeaning.Instances.{is_called_by_name, whole}
use Rattle.pi_meaning.specs.CoreMeaning.Meaning.{in_state, meaning, strictly}
use Rattle.pi_meaning.specs.CoreMeaning.Rules.{level_at}
use Rattle.pi_meaning.specs.CoreMeaning.Run.{Solution, query_start, answered_with, IsRunUnder}
use Rattle.pi_meaning.specs.OverNames.Place.{at_state, beginning}
use Rattle.pi_meaning.specs.OverNames.Telling.{place_told, told_trace, told_cut}
use Rattle.pi_meaning.specs.Shared.Told.{solution_told}
use Rattle.pi_meaning.specs.OverNames.Prelude.{prelude}
use Rattle.pi_meaning.specs.OverNames.Stages.{LaterStages}
use Rattle.pi_meaning.specs.OverNames.Run.{program_level, answer_names, names_from, IsNamesRun}
use Rattle.pi_rewrite_spec.specs.Forms.{Knows}
use Rattle.pi_rewrite_laws.specs.Levels.{SameLevels, GoesByCalls}
use Rattle.pi_rewrite_laws.specs.Roots.{LaterKeepsRoots}
use Rattle.pi_rewrite_spec.specs.Programs.{Naming, core_program, core_query}
use Rattle.pi_rewrite_laws.specs.Within.{knows, HasForms, IsAsked, AreOwn, AreQuiet}

-- what a program has, with the prelude
abbrev pub known_of : ProgramTree → Knows
known_of program = knows (prelude ++ program)

-- ---- programs

-- The core program has a predicate, whose calls count, for each that the program or the prelude has a clause of, and so with functions; and no other.
pub record DefinesTheSame (program : ProgramTree) (preds : List PredTree) : Type 0 where
  pub predicates : (name : List ℕ) (k : ℕ) → is_called_by_name (find_pred false name k preds) ≡ (known_of program).predicate name k
  pub functions : (name : List ℕ) (k : ℕ) → is_some (find_pred true name k preds) ≡ (known_of program).function name k

-- A call of such a predicate or function does what the call over names does, under every view, at each depth and from each state: the same Ticks, loads and outputs, the same end, and in
-- each answer the same value and the same state, so that variables have the same numbers. So it does with further quiet predicates behind the core program, as those of a query's loops.
abbrev pub CallsKeepMeaning : ProgramTree → List PredTree → Type 0
CallsKeepMeaning program preds = (more : List PredTree) → AreQuiet more → (v : View) (later : LaterStages) → GoesByCalls (known_of program) later.calls → LaterKeepsRoots later.calls → (d : ℕ) →
    SameLevels (known_of program) (level_at (whole v later.calls (preds ++ more)) (preds ++ more) d) (program_level v later program d)

-- a core program that keeps the meaning of a program
pub record KeepsMeaning (program : ProgramTree) (preds : List PredTree) : Type 0 where
  pub defines : DefinesTheSame program preds
  pub calls : CallsKeepMeaning program preds

-- ---- goals

-- What a query does from a state, with its slots empty. From the empty state it is `query_trace`.
unfoldable pub query_from : Builtins → List PredTree → QueryTree → ℕ → State → Trace Solution
query_from b preds q d s = then (strictly (meaning b q.goal) (in_state (query_start (level_at b (preds ++ q.helpers) d) q) s)) (answered_with q.names)

-- At each depth and from each state a query does what a goal does over its names, but for how an answer is kept: each answer tells the same values by the same names, and has the same state.
abbrev pub MeansTheSame : ProgramTree → ExpTree → List PredTree → QueryTree → Type 0
MeansTheSame program goal preds q = (v : View) (later : LaterStages) → GoesByCalls (known_of program) later.calls → LaterKeepsRoots later.calls → (d : ℕ) (s : State) →
    told_trace (solution_told q.names) (query_from (whole v later.calls (preds ++ q.helpers)) preds q d s) ≡ told_trace (place_told (answer_names goal)) (names_from v later program goal d (at_state beginning s))

-- the runs of a query are those of a goal over its names
abbrev pub RunsTheSame : ProgramTree → ExpTree → List PredTree → QueryTree → Type 0
RunsTheSame program goal preds q = (v : View) (later : LaterStages) → GoesByCalls (known_of program) later.calls → LaterKeepsRoots later.calls → (n : ℕ) (c : Cut Solution) → IsRunUnder (whole v later.calls (preds ++ q.helpers)) preds q n c →
    IsNamesRun v later program goal n (told_cut (solution_told q.names) c)

-- ---- laws

-- names that no predicate of the core program has either
abbrev pub AreNew : List PredTree → Naming → Type 0
AreNew preds called = (n k : ℕ) → find_pred false (called n) k preds ≡ None

-- each program has a core program that keeps its meaning, whatever own names its helpers get
abbrev pub ProgramsAreKept : Type 0
ProgramsAreKept = (program : ProgramTree) → HasForms program → (called : Naming) → AreOwn (known_of program) called → KeepsMeaning program (core_program called program)

-- and of each such, each goal has a query that means the same and has its runs, whatever own and new names its helpers get
abbrev pub GoalsAreKept : Type 0
GoalsAreKept = (program : ProgramTree) (goal : ExpTree) → HasForms program → IsAsked program goal → (called : Naming) → AreOwn (known_of program) called → (other : Naming) → AreOwn (known_of program) other →
    AreNew (core_program called program) other → MeansTheSame program goal (core_program called program) (core_query other goal) × RunsTheSame program goal (core_program called program) (core_query other goal)
