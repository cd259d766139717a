-- What a text without a fault has: a program all of whose parts are built, and a goal that is built, are of the forms that are lowered. (Own.)
use Rattle.std.specs.Prelude.{◌≡◌, List, None, true}
use Rattle.pi_syntax.specs.ExpTree.{ExpTree}
use Rattle.pi_syntax.specs.ProgramTree.{ProgramTree}
use Rattle.pi_syntax.specs.Tokens.{Token}
use Rattle.pi_prog_clauses.specs.GoalVerdict.{a_goal, HasGoalVerdict}
use Rattle.pi_prog_clauses.specs.Verdict.{a_program, HasVerdict}
use Rattle.pi_rewrite_sound.specs.Built.{is_built_goal, unbuilt_part}
use Rattle.pi_rewrite_sound.specs.Within.{IsWithin}
use Rattle.pi_rewrite_laws.specs.Within.{IsAsked}

-- a program without a fault, all of whose parts are built
abbrev pub FaultlessProgramsAreWithin : Type 0
FaultlessProgramsAreWithin = (tokens : List Token) (program : ProgramTree) → HasVerdict tokens (a_program program) → unbuilt_part program ≡ None → IsWithin program

-- a goal without a fault that is built, asked of any program
abbrev pub FaultlessGoalsAreAsked : Type 0
FaultlessGoalsAreAsked = (tokens : List Token) (program : ProgramTree) (goal : ExpTree) → HasGoalVerdict tokens program (a_goal goal) → is_built_goal goal ≡ true → IsAsked program goal
