-- What the answers on a program's text and a goal's say of them.
use Rattle.std.specs.Prelude.{ℕ, List}
use Rattle.std.specs.String.{string_bytes}
use Rattle.pi_core.specs.CoreTree.{PredTree, QueryTree, program_tree, query_tree}
use Rattle.pi_syntax.specs.ExpTree.{ExpTree}
use Rattle.pi_syntax.specs.ProgramTree.{ProgramTree}
use Rattle.pi_rewrite.specs.Laws.{IsLowered}
use Rattle.pi_top.specs.declared.judgement.Judged.{Judged}
use Rattle.pi_top.specs.declared.judgement.Refusal.{Refusal}
use Rattle.pi_top.specs.Judged.{IsProgramLine, IsGoalLine, Refused, Asks}

-- What is run of a program's text and a goal's: neither has a fault, all of both is built, and a program and a query of the core
-- language mean over their slots what this program, with the prelude in front, and this goal do over names.
pub record IsAsked (text goal : List ℕ) (program : List PredTree) (q : QueryTree) : Type 0 where
  pub source : ProgramTree
  pub asked : ExpTree
  pub asks : Asks text goal source asked
  pub lowered : IsLowered source asked program q

-- of two texts
abbrev pub ShowsJudged : List ℕ → List ℕ → Judged → Type 0
ShowsJudged text goal (Judged.Asks core query) = IsAsked text goal (program_tree core) (query_tree query)
ShowsJudged text goal (Judged.Refused line) = Refused text goal (string_bytes line)

-- of a program's text that isn't read
abbrev pub ShowsProgramLine : List ℕ → Refusal → Type 0
ShowsProgramLine text (Refusal.Line line) = IsProgramLine text (string_bytes line)
ShowsProgramLine text Refusal.Memory = Unit {0}

-- of a goal's
abbrev pub ShowsGoalLine : List ℕ → ProgramTree → Refusal → Type 0
ShowsGoalLine text program (Refusal.Line line) = IsGoalLine text program (string_bytes line)
ShowsGoalLine text program Refusal.Memory = Unit {0}
