use Rattle.pi_store_blocks.proofs.PlacedLemmas.{refs_have_trees}
use Rattle.pi_store_blocks.proofs.RefLemmas.{trees_are_refs}
use Rattle.pi_store_blocks.proofs.laws.refs_have_trees.Goals as goal

pub returns : goal.returns
returns c = record { have = refs_have_trees; only = trees_are_refs }
