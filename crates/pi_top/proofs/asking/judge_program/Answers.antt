use Rattle.std.proofs.Common.{◌≡◌, Some, ap, ◌∙◌}
use Rattle.std.specs.String.{string_bytes}
use Rattle.pi_core.specs.CoreTree.{program_tree}
use Rattle.pi_syntax.specs.ProgramTree.{source_tree}
use Rattle.pi_rewrite_sound.specs.Built.{unbuilt_part}
use Rattle.pi_top.specs.FaultLines.{of_program}
use Rattle.pi_top.specs.Judged.{IsProgramLine}
use Rattle.pi_top.specs.Asking.{IsUnready}
use Rattle.pi_top.proofs.AskedGoals.{readied-program, unready-program}
use Rattle.pi_top.proofs.asking.judge_program.Goals as goal

pub returns-in-Err-Line : goal.returns-in-Err-Line
returns-in-Err-Line c =
    let line = string_bytes c.in-Err-Line.line in
    let is : IsProgramLine c.args.text.items line = rw c.in-Err-Line.field-0-is at c.in-Err-Line.ensures.line in
    IsUnready.faulty line is (c.in_ok-of_program-in-Err-Line.ensures ∙ ap of_program c.as_str.ensures.value)

pub returns-in-Err-NotBuilt : goal.returns-in-Err-NotBuilt
returns-in-Err-NotBuilt c =
    let p = source_tree c.in-Ok.program in
    let is : Some c.in-Err-NotBuilt.number ≡ unbuilt_part p = rw c.in-Err-NotBuilt.field-0-is at c.in-Err-NotBuilt.ensures.unbuilt in
    unready-program c.args.text.items p c.in-Err-NotBuilt.number c.as_str-in-Err-NotBuilt.result.now (string_bytes c.in_ok-of_program-in-Err-NotBuilt.field-0) c.in-Ok.ensures.program is
    (c.as_str-in-Err-NotBuilt.ensures.value ∙ c.in_ok-line-in-Err-NotBuilt.ensures) c.in_ok-of_program-in-Err-NotBuilt.ensures

pub returns-in-Ok-lower : goal.returns-in-Ok-lower
returns-in-Ok-lower c =
    readied-program c.args.text.items (source_tree c.in-Ok.program) (program_tree c.in-Ok-lower.core) c.in-Ok.ensures.program c.in-Ok-lower.ensures.unbuilt c.in-Ok-lower.ensures.lowered
