use Rattle.std.proofs.Common.{◌≡◌, ◌∙◌, Some}
use Rattle.std.specs.String.{string_bytes}
use Rattle.pi_core.specs.CoreTree.{program_tree, query_tree}
use Rattle.pi_syntax.specs.ProgramTree.{source_tree, goal_source}
use Rattle.pi_rewrite_sound.specs.Built.{unbuilt_part, unbuilt_goal}
use Rattle.pi_top.specs.Judged.{not_built}
use Rattle.pi_top.proofs.AskedTexts.{is-asked}
use Rattle.pi_top.proofs.UnbuiltLines.{unbuilt_line-part, unbuilt_line-goal}
use Rattle.pi_top.proofs.judgement.lowered.Goals as goal

pub returns-in-Err-NotBuilt : goal.returns-in-Err-NotBuilt
returns-in-Err-NotBuilt c = λ text of_goal faultless.
    let p = source_tree c.args.program.now in
    let e = goal_source c.args.goal.now in
    let is : Some c.in-Err-NotBuilt.number ≡ unbuilt_part p = rw c.in-Err-NotBuilt.field-0-is at c.in-Err-NotBuilt.ensures.unbuilt in
    not_built p e faultless
    (unbuilt_line-part p e c.in-Err-NotBuilt.number c.as_str.result.now (string_bytes c.in_ok-of_program-in-Err-NotBuilt.field-0) is
    (c.as_str.ensures.value ∙ c.in_ok-line-in-Err-NotBuilt.ensures) c.in_ok-of_program-in-Err-NotBuilt.ensures)

pub returns-in-Err-NotBuilt-lower_goal : goal.returns-in-Err-NotBuilt-lower_goal
returns-in-Err-NotBuilt-lower_goal c = λ text of_goal faultless.
    let p = source_tree c.args.program.now in
    let e = goal_source c.args.goal.now in
    let is : Some c.in-Err-NotBuilt-lower_goal.number ≡ unbuilt_goal e = rw c.in-Err-NotBuilt-lower_goal.field-0-is at c.in-Err-NotBuilt-lower_goal.ensures.unbuilt in
    not_built p e faultless
    (unbuilt_line-goal p e c.in-Err-NotBuilt-lower_goal.number c.as_str-in-Err-NotBuilt-lower_goal.result.now (string_bytes c.in_ok-of_goal-in-Err-NotBuilt-lower_goal.field-0) c.in-Ok.ensures.unbuilt is
    (c.as_str-in-Err-NotBuilt-lower_goal.ensures.value ∙ c.in_ok-line-in-Err-NotBuilt-lower_goal.ensures) c.in_ok-of_goal-in-Err-NotBuilt-lower_goal.ensures)

pub returns-in-Ok-lower_goal : goal.returns-in-Ok-lower_goal
returns-in-Ok-lower_goal c = λ text of_goal faultless.
    is-asked text of_goal (source_tree c.args.program.now) (goal_source c.args.goal.now) (program_tree c.in-Ok.core) (query_tree c.in-Ok-lower_goal.query) faultless
    c.in-Ok.ensures.unbuilt c.in-Ok-lower_goal.ensures.unbuilt c.in-Ok.ensures.lowered c.in-Ok-lower_goal.ensures.lowered
