use Rattle.std.proofs.Common.{ap, ◌∙◌}
use Rattle.std.specs.String.{string_bytes}
use Rattle.pi_syntax.specs.ProgramTree.{source_tree}
use Rattle.pi_top.specs.FaultLines.{of_program}
use Rattle.pi_top.specs.Judged.{IsProgramLine}
use Rattle.pi_top.proofs.printing.canonical_of.Goals as goal

pub returns-in-Err-Line : goal.returns-in-Err-Line
returns-in-Err-Line c =
    let line = string_bytes c.in-Err-Line.line in
    let is : IsProgramLine c.args.text.items line = rw c.in-Err-Line.field-0-is at c.in-Err-Line.ensures.line in
    record { fault = line; is_fault = is; is = c.in_ok-of_program-in-Err-Line.ensures ∙ ap of_program c.as_str.ensures.value }

pub returns : goal.returns
returns c = record { program = source_tree c.in-Ok.program; is_program = c.in-Ok.ensures.program; is = c.in_ok-whole.ensures.ok }
