-- What a program's text comes to before any goal is asked of it, and a goal's text that is asked of a program then.
use Rattle.std.specs.Prelude.{◌≡◌, ℕ, true, false, List, None, Some}
use Rattle.pi_syntax.specs.ExpTree.{ExpTree}
use Rattle.pi_syntax.specs.ProgramTree.{ProgramTree}
use Rattle.pi_rewrite_sound.specs.Built.{unbuilt_part, is_built_goal}
use Rattle.pi_top.specs.FaultLines.{not_built_line, of_program, of_goal}
use Rattle.pi_top.specs.Judged.{IsProgramText, IsProgramLine, IsGoalText, IsGoalLine}

-- the text is this program, without a fault, and all of it is built
pub record IsReady (text : List ℕ) (program : ProgramTree) : Type 0 where
  pub is_program : IsProgramText text program
  pub built : unbuilt_part program ≡ None

-- no goal is asked of it, and this line says why
pub data IsUnready (text line : List ℕ) : Type 0 where
  faulty : (fault : List ℕ) → IsProgramLine text fault → line ≡ of_program fault → IsUnready text line
  not_built : (program : ProgramTree) (number : ℕ) → IsProgramText text program → unbuilt_part program ≡ Some number → line ≡ of_program (not_built_line number) → IsUnready text line

-- a text is this goal, without a fault, asked of a program, and all of it is built
pub record AsksOf (program : ProgramTree) (text : List ℕ) (goal : ExpTree) : Type 0 where
  pub is_goal : IsGoalText text program goal
  pub built : is_built_goal goal ≡ true

-- it isn't asked, and this line says why
pub data RefusesOf (program : ProgramTree) (text line : List ℕ) : Type 0 where
  faulty : (fault : List ℕ) → IsGoalLine text program fault → line ≡ of_goal fault → RefusesOf program text line
  not_built : (goal : ExpTree) → IsGoalText text program goal → is_built_goal goal ≡ false → line ≡ of_goal (not_built_line 1) → RefusesOf program text line
