use Rattle.std.proofs.Common.{◌∙◌}
use Rattle.pi_terms.specs.ListNames.{cell_name}
use Rattle.pi_core.specs.declared.core_program.Pattern.{Slot}
use Rattle.pi_rewrite_slots.proofs.PatternLemmas.{structure-tree}
use Rattle.pi_rewrite_loops.proofs.PushedLemmas.{pushed-two}
use Rattle.pi_rewrite_loops.proofs.TermLemmas.{cell-form}
use Rattle.pi_rewrite_loops.proofs.walks.cell_pattern.Goals as goal

pub returns : goal.returns
returns c =
    structure-tree c.in_ok-name.name cell_name c.push-2.new.self c.in_ok-name.ensures.ok ∙ cell-form c.push-2.new.self.items (pushed-two c.new-parts.result.items c.push.new.self.items c.push-2.new.self.items (Slot 0) (Slot 1) c.new-parts.ensures.items c.in_ok-push.ensures.items c.in_ok-push-2.ensures.items)
