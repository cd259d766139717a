use Rattle.std.proofs.Common.{◌≡◌, Some, ap, ◌∙◌}
use Rattle.std.specs.String.{string_bytes}
use Rattle.pi_core.specs.CoreTree.{program_tree, query_tree}
use Rattle.pi_syntax.specs.ProgramTree.{source_tree, goal_source}
use Rattle.pi_rewrite_sound.specs.Built.{unbuilt_goal}
use Rattle.pi_top.specs.FaultLines.{of_goal}
use Rattle.pi_top.specs.Judged.{IsGoalLine}
use Rattle.pi_top.specs.Asking.{RefusesOf}
use Rattle.pi_top.proofs.AskedGoals.{asked-goal, refused-goal}
use Rattle.pi_top.proofs.asking.judge_goal.Goals as goal

pub returns-in-Err-Line : goal.returns-in-Err-Line
returns-in-Err-Line c = λ may.
    let line = string_bytes c.in-Err-Line.line in
    let is : IsGoalLine c.args.text.now (source_tree c.args.program.now) line = rw c.in-Err-Line.field-0-is at c.in-Err-Line.ensures.line in
    RefusesOf.faulty line is (c.in_ok-of_goal-in-Err-Line.ensures ∙ ap of_goal c.as_str.ensures.value)

pub returns-in-Err-NotBuilt : goal.returns-in-Err-NotBuilt
returns-in-Err-NotBuilt c = λ may.
    let e = goal_source c.in-Ok.goal in
    let is : Some c.in-Err-NotBuilt.number ≡ unbuilt_goal e = rw c.in-Err-NotBuilt.field-0-is at c.in-Err-NotBuilt.ensures.unbuilt in
    refused-goal c.args.text.now (source_tree c.args.program.now) e c.in-Err-NotBuilt.number c.as_str-in-Err-NotBuilt.result.now (string_bytes c.in_ok-of_goal-in-Err-NotBuilt.field-0) c.in-Ok.ensures.goal is
    (c.as_str-in-Err-NotBuilt.ensures.value ∙ c.in_ok-line-in-Err-NotBuilt.ensures) c.in_ok-of_goal-in-Err-NotBuilt.ensures

pub returns-in-Ok-lower_goal : goal.returns-in-Ok-lower_goal
returns-in-Ok-lower_goal c = λ may.
    asked-goal c.args.text.now (source_tree c.args.program.now) (goal_source c.in-Ok.goal) (program_tree c.args.core.now) (query_tree c.in-Ok-lower_goal.query) may c.in-Ok.ensures.goal
    c.in-Ok-lower_goal.ensures.unbuilt c.in-Ok-lower_goal.ensures.lowered
