use Rattle.std.proofs.Common.{◌<◌, ◌≤◌, length, ap, ◌∙◌, arith}
use Rattle.pi_store_blocks.specs.Items.{item_of}
use Rattle.pi_store_blocks.proofs.ItemLemmas.{item_read, items_read}
use Rattle.pi_store_blocks.proofs.constraints.items.read_items.Goals as goal

pub loop-k-preserved : goal.loop-k-preserved
loop-k-preserved c =
    let within : c.loop-k.k < length c.args.block.now = omega arith in
    item_read c.args.block.now c.loop-k.k c.loop-k.items c.push.new.self _ c.item_of.result c.in_ok-push.ensures.ok (c.item_of.ensures ∙ ap item_of c.get.ensures.is) within c.loop-k.invariant

pub returns : goal.returns
returns c =
    let past : length c.args.block.now ≤ c.loop-k.k = omega arith in
    items_read c.args.block.now c.loop-k.k c.loop-k.items _ past c.loop-k.invariant
