use Rattle.std.proofs.Common.{◌≡◌, map, take}
use Rattle.pi_region.specs.Entry.{data_of}
use Rattle.pi_region.specs.Image.{appended}
use Rattle.pi_store_blocks.specs.Items.{item_numbers}
use Rattle.pi_store_blocks.proofs.constraints.items.append_items.Given as goal

abbrev pub invariant-loop-item : goal.invariant-loop-item
invariant-loop-item l = l.words ≡ appended l.initial.words (map data_of (item_numbers (take l.item-index l.items)))
