use Rattle.std.proofs.Common.{◌≡◌, drop}
use Rattle.pi_region.specs.Image.{numbers_of}
use Rattle.pi_store_blocks.specs.Form.{all_ground}
use Rattle.pi_store_blocks.proofs.put.are_ground.Given as goal

abbrev pub invariant-loop-r : goal.invariant-loop-r
invariant-loop-r l = all_ground (numbers_of (drop l.r-index l.args)) ≡ all_ground (numbers_of l.args)
