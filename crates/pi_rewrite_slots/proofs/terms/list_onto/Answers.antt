use Rattle.pi_terms.specs.Tree.{trees_of}
use Rattle.pi_meaning.specs.OverNames.Terms.{items_onto}
use Rattle.pi_rewrite_slots.proofs.CellLemmas.{copies-none, copies-more, copies-end}
use Rattle.pi_rewrite_slots.proofs.terms.list_onto.Goals as goal

pub loop-item-init : goal.loop-item-init
loop-item-init c = copies-none c.args.items.now c.new-cells.result.items c.new-cells.ensures.items

pub loop-item-preserved : goal.loop-item-preserved
loop-item-preserved c =
    copies-more c.args.items.now c.loop-item.item-index c.item-item.result c.loop-item.cells.items c.push_list_cell.new.cells.items c.push_copy.new.cells.items c.loop-item-test.true c.item-item.is c.loop-item.invariant
    c.in_ok-push_list_cell.ensures c.in_ok-push_copy.ensures

pub from_bare-requires : goal.from_bare-requires
from_bare-requires c = (
  items_onto (trees_of c.args.items.now) c.args.rest.now,
  copies-end c.args.items.now c.loop-item.item-index c.args.rest.now c.loop-item.cells.items c.push_copy-2.new.cells.items c.loop-item-test.false c.loop-item.invariant c.in_ok-push_copy-2.ensures,
)

pub returns : goal.returns
returns c =
    c.from_bare.ensures (items_onto (trees_of c.args.items.now) c.args.rest.now)
    (copies-end c.args.items.now c.loop-item.item-index c.args.rest.now c.loop-item.cells.items c.push_copy-2.new.cells.items c.loop-item-test.false c.loop-item.invariant c.in_ok-push_copy-2.ensures)
