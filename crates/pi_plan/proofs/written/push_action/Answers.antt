use Rattle.std.proofs.Common.{◌∷◌, [], ◌++◌, ◌∙◌, ap, arith}
use Rattle.pi_terms.specs.ListNames.{cell_name}
use Rattle.pi_terms.specs.declared.term.TermCell.{TermCell}
use Rattle.pi_plan.proofs.WrittenLemmas.{written_more, action_written}
use Rattle.pi_plan.proofs.written.push_action.Goals as goal

pub loop-i-preserved : goal.loop-i-preserved
loop-i-preserved c =
    written_more (c.args.cells.now.items ++ TermCell.Comp cell_name 2 0 ∷ []) c.loop-i.cells.items c.push-in-loop-i.new.self.items c.args.action.now c.loop-i.i c.head_at.result c.loop-i.invariant c.head_at.ensures
    (c.in_ok-push-2.ensures.items ∙ ap (λ (cell : TermCell). c.loop-i.cells.items ++ cell ∷ []) c.in_ok-bare_cell.ensures)

pub returns : goal.returns
returns c = action_written c.args.cells.now.items c.loop-i.cells.items c.args.action.now c.loop-i.i c.loop-i.invariant (omega arith)
