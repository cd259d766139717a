use Rattle.std.proofs.Common.{◌∙◌}
use Rattle.pi_terms.specs.Variables.{firsts}
use Rattle.pi_terms.proofs.RenamedLemmas.{one_noted}
use Rattle.pi_terms.proofs.term.renumbered.numbers_of.Goals as goal

pub loop-cell-init : goal.loop-cell-init
unfolding firsts
loop-cell-init c = c.new-numbers.ensures

pub loop-cell-preserved : goal.loop-cell-preserved
loop-cell-preserved c =
    c.in_ok-note_cell.ensures.ok ∙ one_noted c.args.cells.now c.loop-cell.cell-index c.cell-item.result c.loop-cell.numbers c.loop-cell-test.true c.cell-item.is c.loop-cell.invariant
