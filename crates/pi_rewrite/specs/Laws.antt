-- What lowering keeps. A core program keeps the meaning of a program, and a query that of a goal: both are sound, and what they do with what is built of later stages of the language is
-- what is done over names, with the prelude in front, whatever the other stages give (`Allows` says where one of them calls terms). What they are stands in `Programs` of `pi_rewrite_spec`.
use Rattle.std.specs.Prelude.{◌≡◌, ℕ, true, List, ◌++◌, None, All, IsTrue}
use Rattle.pi_terms.specs.Tree.{Trees, tree_count}
use Rattle.pi_constraints.specs.State.{State}
use Rattle.pi_syntax.specs.ExpTree.{ExpTree}
use Rattle.pi_syntax.specs.ProgramTree.{ProgramTree}
use Rattle.pi_core.specs.CoreTree.{PredTree, QueryTree}
use Rattle.pi_traces.specs.Depth.{Cut}
use Rattle.pi_meaning.specs.Shared.View.{View}
use Rattle.pi_meaning.specs.Shared.Level.{calls_at}
use Rattle.pi_meaning.specs.CoreMeaning.Instances.{built_later, whole}
use Rattle.pi_meaning.specs.CoreMeaning.Rules.{level_at}
use Rattle.pi_meaning.specs.CoreMeaning.Run.{Solution, IsRunUnder}
use Rattle.pi_meaning.specs.CoreMeaning.Sound.{IsSound, IsSoundQuery}
use Rattle.pi_meaning.specs.CoreMeaning.Defined.{ProgramCallsDefined, QueryCallsDefined, NamesAreFree}
use Rattle.pi_meaning.specs.OverNames.Place.{at_state, beginning}
use Rattle.pi_meaning.specs.OverNames.Telling.{place_told, told_trace, told_cut}
use Rattle.pi_meaning.specs.Shared.Told.{solution_told}
use Rattle.pi_meaning.specs.OverNames.Stages.{LaterStages}
use Rattle.pi_meaning.specs.OverNames.Run.{program_level, answer_names, names_from, IsNamesRun}
use Rattle.pi_rewrite_laws.specs.Within.{IsAsked}
use Rattle.pi_rewrite_laws.specs.Laws.{known_of, DefinesTheSame, query_from}
use Rattle.pi_rewrite_spec.specs.Programs.{Naming, core_program}
use Rattle.pi_rewrite_sound.specs.Built.{unbuilt_part, is_built_goal}
use Rattle.pi_rewrite_sound.specs.Within.{IsWithin}
use Rattle.pi_rewrite_sound.specs.TermCalls.{ProgramAllows, Allows}
use Rattle.pi_rewrite_sound.specs.Laws.{IsPlain, AreNames}

-- ---- programs

-- A call of what the program or the prelude has does what the call over names does, under every view, whatever later stages of the language give that it allows, at each depth and from each
-- state: the same Ticks, loads and outputs, the same end, and in each answer the same value and the same state, so that variables have the same numbers.
pub record CallsTheSame (program : ProgramTree) (preds : List PredTree) : Type 0 where
  pub predicates : (v : View) (later : LaterStages) → ProgramAllows later program → (d : ℕ) (name : List ℕ) (ts : Trees) (s : State) → IsTrue ((known_of program).predicate name (tree_count ts)) →
      (calls_at (level_at (whole v built_later preds) preds d)).called name ts s ≡ (calls_at (program_level v later program d)).called name ts s
  pub functions : (v : View) (later : LaterStages) → ProgramAllows later program → (d : ℕ) (name : List ℕ) (ts : Trees) (s : State) → IsTrue ((known_of program).function name (tree_count ts)) →
      (calls_at (level_at (whole v built_later preds) preds d)).applied name ts s ≡ (calls_at (program_level v later program d)).applied name ts s

-- What a program is lowered to, whatever names of their own the helpers of its loops have.
pub record IsCoreProgram (program : ProgramTree) (preds : List PredTree) : Type 0 where
  pub called : Naming
  pub names : AreNames program called
  pub is : preds ≡ core_program called program

-- A core program that keeps the meaning of a program. It calls built-ins of the tables, `call`, and what it defines: what the program or the prelude has clauses of, helpers of loops, and
-- nothing by a name that the language gives.
pub record IsLoweredProgram (program : ProgramTree) (preds : List PredTree) : Type 0 where
  pub made : IsCoreProgram program preds
  pub sound : IsSound preds
  pub plain : All IsPlain preds
  pub closed : ProgramCallsDefined preds
  pub free : NamesAreFree preds
  pub defines : DefinesTheSame program preds
  pub calls : CallsTheSame program preds

-- ---- goals

-- Under every view, whatever later stages give that program and goal allow, at each depth and from each state a query does what a goal does over its names, but for how an answer is kept:
-- each answer tells the same values by the same names, and has the same state.
abbrev pub MeansTheSame : ProgramTree → ExpTree → List PredTree → QueryTree → Type 0
MeansTheSame program goal preds q = (v : View) (later : LaterStages) → Allows later program goal → (d : ℕ) (s : State) →
    told_trace (solution_told q.names) (query_from (whole v built_later (preds ++ q.helpers)) preds q d s) ≡ told_trace (place_told (answer_names goal)) (names_from v later program goal d (at_state beginning s))

-- the runs of a query are those of a goal over its names
abbrev pub RunsTheSame : ProgramTree → ExpTree → List PredTree → QueryTree → Type 0
RunsTheSame program goal preds q = (v : View) (later : LaterStages) → Allows later program goal → (n : ℕ) (c : Cut Solution) → IsRunUnder (whole v built_later (preds ++ q.helpers)) preds q n c →
    IsNamesRun v later program goal n (told_cut (solution_told q.names) c)

-- a query that keeps the meaning of a goal that is asked of a program; it calls nothing else either, and nothing of both has a name that the language gives
pub record IsLowered (program : ProgramTree) (goal : ExpTree) (preds : List PredTree) (q : QueryTree) : Type 0 where
  pub sound : IsSoundQuery preds q
  pub plain : All IsPlain (preds ++ q.helpers)
  pub closed : QueryCallsDefined preds q
  pub free : NamesAreFree (preds ++ q.helpers)
  pub means : MeansTheSame program goal preds q
  pub runs : RunsTheSame program goal preds q

-- ---- laws

-- each program that is lowered and all of which is built has a core program that keeps its meaning
abbrev pub ProgramsHaveCorePrograms : Type 0
ProgramsHaveCorePrograms = (program : ProgramTree) → IsWithin program → unbuilt_part program ≡ None → (preds : List PredTree) × IsLoweredProgram program preds

-- and of each such core program, each goal that is asked of the program and is built has a query that keeps its meaning
abbrev pub GoalsHaveQueries : Type 0
GoalsHaveQueries = (program : ProgramTree) (goal : ExpTree) (preds : List PredTree) → IsWithin program → unbuilt_part program ≡ None → IsAsked program goal → is_built_goal goal ≡ true → IsLoweredProgram program preds →
    (q : QueryTree) × IsLowered program goal preds q

-- where two traces are the same, so are their runs
abbrev pub SameMeaningRunsTheSame : Type 0
SameMeaningRunsTheSame = (program : ProgramTree) (goal : ExpTree) (preds : List PredTree) (q : QueryTree) → MeansTheSame program goal preds q → RunsTheSame program goal preds q
