use Rattle.pi_store_blocks.proofs.WalkLemmas.{Walked, weights}
use Rattle.pi_store_blocks.proofs.lists.walk.listed.Given as goal

abbrev pub invariant-loop-at : goal.invariant-loop-at
invariant-loop-at l = Walked l.words.region l.fn.end l.found.items l.ends.items

abbrev pub decreases-loop-at : goal.decreases-loop-at
decreases-loop-at l = weights l.ends.items
