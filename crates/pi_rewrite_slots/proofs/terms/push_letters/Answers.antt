use Rattle.pi_rewrite_slots.proofs.CellLemmas.{letters-none, letters-more, letters-end}
use Rattle.pi_rewrite_slots.proofs.terms.push_letters.Goals as goal

pub loop-letter-init : goal.loop-letter-init
loop-letter-init c = letters-none c.args.letters.now c.args.cells.now.items

pub loop-letter-preserved : goal.loop-letter-preserved
loop-letter-preserved c =
    letters-more c.args.letters.now c.loop-letter.letter-index c.letter-item.result c.in_ok-name.name c.args.cells.now.items c.loop-letter.cells.items c.push_list_cell.new.cells.items c.push.new.self.items c.loop-letter-test.true c.letter-item.is c.loop-letter.invariant
    c.in_ok-push_list_cell.ensures c.in_ok-push.ensures.items c.in_ok-name.ensures

pub returns : goal.returns
returns c = letters-end c.args.letters.now c.loop-letter.letter-index c.args.cells.now.items c.loop-letter.cells.items c.loop-letter-test.false c.loop-letter.invariant
