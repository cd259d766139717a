-- What a goal's tokens come to, asked of a program: the goal, or its first fault. A goal is one part.
use Rattle.std.specs.Prelude.{ℕ, true, if◌then◌else◌, List, [], ◌∷◌, ◌++◌, Option, Some, None}
use Rattle.pi_syntax.specs.Crowding.{IsRead, IsTooDeep, HasNoExp}
use Rattle.pi_syntax.specs.ExpTree.{ExpTree}
use Rattle.pi_syntax.specs.ProgramTree.{WrittenClause, ProgramTree}
use Rattle.pi_syntax.specs.Tokens.{Token}
use Rattle.pi_prog_clauses.specs.Calls.{Named, calls_among, first_unknown}
use Rattle.pi_prog_clauses.specs.Items.{are_bad_nodes}
use Rattle.pi_prog_clauses.specs.Places.{goal, placed}
use Rattle.pi_prog_clauses.specs.Reading.{variable_names}
use Rattle.pi_prog_clauses.specs.Stretch.{without_end}
use Rattle.pi_prog_clauses.specs.Verdict.{PartFault, TooDeep, BadClause, TooManyVariables, as_list, definition, has_too_many_names}

-- what a clause defines
abbrev pub defined_by_clause : Option WrittenClause → List Named
defined_by_clause None = []
defined_by_clause (Some c) = as_list (definition c)

-- and a program
abbrev pub defined_by_program : ProgramTree → List Named
defined_by_program [] = []
defined_by_program (p ∷ ps) = defined_by_clause p.clause ++ defined_by_program ps

pub data GoalVerdict : Type 0 where
  a_goal : ExpTree → GoalVerdict
  goal_is_faulty : PartFault → GoalVerdict
  calls_unknown : Named → GoalVerdict

abbrev pub unknown_goal : ExpTree → Option Named → GoalVerdict
unknown_goal e None = a_goal e
unknown_goal e (Some c) = calls_unknown c

-- of an expression that isn't too deep, with the names of its variables
unfoldable pub goal_verdict : ProgramTree → ExpTree → List (List ℕ) → GoalVerdict
goal_verdict program e names =
    if are_bad_nodes (placed (goal true) e) then goal_is_faulty BadClause
    else if has_too_many_names names then goal_is_faulty TooManyVariables
    else unknown_goal e (first_unknown (defined_by_program program) (calls_among (placed (goal true) e)))

-- of the tokens before the end point
pub data JudgesGoal (program : ProgramTree) (ts : List Token) : GoalVerdict → Type 0 where
  goal_too_deep : IsTooDeep ts → JudgesGoal program ts (goal_is_faulty TooDeep)
  no_goal : HasNoExp ts → JudgesGoal program ts (goal_is_faulty BadClause)
  an_expression : {e : ExpTree} → IsRead ts e → JudgesGoal program ts (goal_verdict program e (variable_names ts))

abbrev pub HasGoalVerdict : List Token → ProgramTree → GoalVerdict → Type 0
HasGoalVerdict tokens program v = JudgesGoal program (without_end tokens) v
