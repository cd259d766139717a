-- What a program's text and a goal's come to: a goal that is asked of a program, or the line that says why none is.
use Rattle.std.specs.Prelude.{◌≡◌, ◌⊎◌, ℕ, Bool, false, true, List, Option, None, Some}
use Rattle.pi_lex.specs.Kinds.{kinds}
use Rattle.pi_syntax.specs.ExpTree.{ExpTree}
use Rattle.pi_syntax.specs.ProgramTree.{ProgramTree}
use Rattle.pi_syntax.specs.Tokens.{Token, Located, Fault, HasTokens, HasFault}
use Rattle.pi_prog_clauses.specs.GoalVerdict.{GoalVerdict, a_goal, HasGoalVerdict}
use Rattle.pi_prog_clauses.specs.Verdict.{Verdict, a_program, HasVerdict}
use Rattle.pi_rewrite_sound.specs.Built.{unbuilt_part, is_built_goal}
use Rattle.pi_top.specs.FaultLines.{token_line, verdict_line, goal_verdict_line, not_built_line, of_program, of_goal}

-- the line on what isn't built: the number of the first such part, or the goal
abbrev pub unbuilt_line_of : Option ℕ → Bool → Option (List ℕ)
unbuilt_line_of (Some number) built = Some (of_program (not_built_line number))
unbuilt_line_of None false = Some (of_goal (not_built_line 1))
unbuilt_line_of None true = None

-- of a program and a goal without a fault
abbrev pub unbuilt_line : ProgramTree → ExpTree → Option (List ℕ)
unbuilt_line program asked = unbuilt_line_of (unbuilt_part program) (is_built_goal asked)

-- a text has tokens, of which this holds
pub record OfTokens (text : List ℕ) (P : List Token → Type 0) : Type 0 where
  pub tokens : List Located
  pub has : HasTokens text tokens
  pub holds : P (kinds tokens)

-- a text has no tokens, and this is its fault's line
pub record IsTokenLine (text line : List ℕ) : Type 0 where
  pub fault : Fault
  pub has : HasFault text fault
  pub is : line ≡ token_line fault

-- a text is this program
abbrev pub IsProgramText : List ℕ → ProgramTree → Type 0
IsProgramText text program = OfTokens text (λ tokens. HasVerdict tokens (a_program program))

-- a text is this goal, asked of a program
abbrev pub IsGoalText : List ℕ → ProgramTree → ExpTree → Type 0
IsGoalText text program goal = OfTokens text (λ tokens. HasGoalVerdict tokens program (a_goal goal))

-- tokens have this verdict with this line
pub record HasVerdictLine (tokens : List Token) (line : List ℕ) : Type 0 where
  pub verdict : Verdict
  pub has : HasVerdict tokens verdict
  pub is : verdict_line verdict ≡ Some line

pub record HasGoalVerdictLine (program : ProgramTree) (tokens : List Token) (line : List ℕ) : Type 0 where
  pub verdict : GoalVerdict
  pub has : HasGoalVerdict tokens program verdict
  pub is : goal_verdict_line verdict ≡ Some line

-- a program's text has a fault, whose line this is
abbrev pub IsProgramLine : List ℕ → List ℕ → Type 0
IsProgramLine text line = IsTokenLine text line ⊎ OfTokens text (λ tokens. HasVerdictLine tokens line)

-- and a goal's text, asked of a program
abbrev pub IsGoalLine : List ℕ → ProgramTree → List ℕ → Type 0
IsGoalLine text program line = IsTokenLine text line ⊎ OfTokens text (λ tokens. HasGoalVerdictLine program tokens line)

-- two texts without a fault
pub record AreFaultless (text goal : List ℕ) (program : ProgramTree) (asked : ExpTree) : Type 0 where
  pub is_program : IsProgramText text program
  pub is_goal : IsGoalText goal program asked

-- Nothing is run, and this line says why: the program's fault, then the goal's, then what isn't built.
pub data Refused (text goal line : List ℕ) : Type 0 where
  program_fault : (fault : List ℕ) → IsProgramLine text fault → line ≡ of_program fault → Refused text goal line
  goal_fault : (program : ProgramTree) (fault : List ℕ) → IsProgramText text program → IsGoalLine goal program fault → line ≡ of_goal fault → Refused text goal line
  not_built : (program : ProgramTree) (asked : ExpTree) → AreFaultless text goal program asked → unbuilt_line program asked ≡ Some line → Refused text goal line

-- a goal is asked of a program, and all of both is built
pub record Asks (text goal : List ℕ) (program : ProgramTree) (asked : ExpTree) : Type 0 where
  pub faultless : AreFaultless text goal program asked
  pub built : unbuilt_line program asked ≡ None
