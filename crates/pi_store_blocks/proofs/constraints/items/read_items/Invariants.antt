use Rattle.std.proofs.Common.{◌≡◌, ◌++◌, drop}
use Rattle.pi_store_blocks.specs.Items.{items_of}
use Rattle.pi_store_blocks.proofs.constraints.items.read_items.Given as goal

abbrev pub invariant-loop-k : goal.invariant-loop-k
invariant-loop-k l = l.items ++ items_of (drop l.k l.block) ≡ items_of (drop l.from l.block)
