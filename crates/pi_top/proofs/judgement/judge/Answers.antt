use Rattle.std.proofs.Common.{ap, ◌∙◌}
use Rattle.std.specs.String.{string_bytes}
use Rattle.pi_syntax.specs.ProgramTree.{source_tree}
use Rattle.pi_top.specs.FaultLines.{of_program, of_goal}
use Rattle.pi_top.specs.Judged.{IsProgramLine, IsGoalLine, program_fault, goal_fault}
use Rattle.pi_top.proofs.judgement.judge.Goals as goal

pub returns-in-Err-Line : goal.returns-in-Err-Line
returns-in-Err-Line c =
    let line = string_bytes c.in-Err-Line.line in
    let is : IsProgramLine c.args.text.items line = rw c.in-Err-Line.field-0-is at c.in-Err-Line.ensures.line in
    program_fault line is (c.in_ok-of_program-in-Err-Line.ensures ∙ ap of_program c.as_str.ensures.value)

pub returns-in-Err-Line-goal_of : goal.returns-in-Err-Line-goal_of
returns-in-Err-Line-goal_of c =
    let line = string_bytes c.in-Err-Line-goal_of.line in
    let is : IsGoalLine c.args.goal.now (source_tree c.in-Ok.program) line = rw c.in-Err-Line-goal_of.field-0-is at c.in-Err-Line-goal_of.ensures.line in
    goal_fault (source_tree c.in-Ok.program) line c.in-Ok.ensures.program is (c.in_ok-of_goal-in-Err-Line-goal_of.ensures ∙ ap of_goal c.as_str-in-Err-Line-goal_of.ensures.value)
