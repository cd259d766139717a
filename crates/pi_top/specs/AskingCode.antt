-- What the judgement of a program's text answers, and that of a goal's which is asked of it.
use Rattle.std.specs.Prelude.{ℕ, List}
use Rattle.std.specs.String.{string_bytes}
use Rattle.pi_core.specs.CoreTree.{PredTree, QueryTree, program_tree, query_tree}
use Rattle.pi_syntax.specs.ExpTree.{ExpTree}
use Rattle.pi_syntax.specs.ProgramTree.{ProgramTree, source_tree}
use Rattle.pi_rewrite.specs.Laws.{IsLoweredProgram, IsLowered}
use Rattle.pi_top.specs.declared.asking.GoalJudged.{GoalJudged}
use Rattle.pi_top.specs.declared.asking.ProgramJudged.{ProgramJudged}
use Rattle.pi_top.specs.Asking.{IsReady, IsUnready, AsksOf, RefusesOf}

-- a program's text is this program, all of which is built, and it is lowered to this core program
pub record MayBeAsked (program : ProgramTree) (core : List PredTree) : Type 0 where
  pub text : List ℕ
  pub is_ready : IsReady text program
  pub lowered : IsLoweredProgram program core

-- a text is this program, which is lowered to this core program
pub record IsReadied (text : List ℕ) (program : ProgramTree) (core : List PredTree) : Type 0 where
  pub is_ready : IsReady text program
  pub lowered : IsLoweredProgram program core

-- by what the judgement of a program's text answers
abbrev pub ShowsProgramJudged : List ℕ → ProgramJudged → Type 0
ShowsProgramJudged text (ProgramJudged.Ready program core) = IsReadied text (source_tree program) (program_tree core)
ShowsProgramJudged text (ProgramJudged.Refused line) = IsUnready text (string_bytes line)

-- a text is asked of it, by this query
pub record IsAskedOf (program : ProgramTree) (core : List PredTree) (text : List ℕ) (q : QueryTree) : Type 0 where
  pub goal : ExpTree
  pub asks : AsksOf program text goal
  pub lowered : IsLowered program goal core q

-- by what the judgement of a goal's text answers
abbrev pub ShowsGoalJudged : ProgramTree → List PredTree → List ℕ → GoalJudged → Type 0
ShowsGoalJudged program core text (GoalJudged.Asks q) = IsAskedOf program core text (query_tree q)
ShowsGoalJudged program core text (GoalJudged.Refused line) = RefusesOf program text (string_bytes line)
