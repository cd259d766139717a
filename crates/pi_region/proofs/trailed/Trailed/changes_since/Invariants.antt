use Rattle.pi_region.specs.Changes.{HasNoted}
use Rattle.pi_region.proofs.trailed.Trailed.changes_since.Given as goal

abbrev pub invariant-loop-end : goal.invariant-loop-end
invariant-loop-end l = HasNoted l.self l.len l.end l.found.count l.found.words.entries

abbrev pub decreases-loop-end : goal.decreases-loop-end
decreases-loop-end l = l.end
