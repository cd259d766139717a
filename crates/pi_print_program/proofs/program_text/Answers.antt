use Rattle.std.proofs.Common.{◌∙◌, ap}
use Rattle.std.specs.Prelude.{map}
use Rattle.std.specs.String.{string_bytes}
use Rattle.pi_syntax.specs.ProgramTree.{part_tree}
use Rattle.pi_print_program.specs.Canonical.{canonical_text}
use Rattle.pi_print_program.proofs.ClauseLemmas.{program-more, program-end}
use Rattle.pi_print_program.proofs.program_text.Goals as goal

pub loop-part-preserved : goal.loop-part-preserved
loop-part-preserved c =
    program-more c.as_slice-part-items.result.now c.loop-part.part-index c.part-item.result (string_bytes c.loop-part.out) (string_bytes c.write_part.new.out) _ c.loop-part-test.true c.part-item.is c.in_ok-write_part.ensures c.loop-part.invariant

pub returns : goal.returns
unfolding canonical_text
returns c = record {
  ok = c.in_ok-text.ensures.ok ∙ (program-end c.as_slice-part-items.result.now c.loop-part.part-index (string_bytes c.loop-part.out) _ c.loop-part-test.false c.loop-part.invariant
      ∙ ap (λ ps. canonical_text (map part_tree ps)) c.as_slice-part-items.ensures);
}
