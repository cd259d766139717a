use Rattle.std.proofs.Common.{arith}
use Rattle.pi_store_blocks.proofs.ItemLemmas.{item_written}
use Rattle.pi_store_blocks.proofs.constraints.items.append_items.Goals as goal

pub loop-item-preserved : goal.loop-item-preserved
loop-item-preserved c = item_written _ _ _ c.args.items.now c.loop-item.item-index _ (omega arith) c.loop-item.invariant (rw (c.data.ensures, c.item_number.ensures.is) at c.in_ok-append.ensures.ok)
