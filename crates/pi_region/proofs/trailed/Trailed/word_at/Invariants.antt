use Rattle.std.proofs.Common.{◌≡◌}
use Rattle.pi_region.specs.Image.{Image}
use Rattle.pi_region.specs.Back.{back}
use Rattle.pi_region.specs.History.{Stands}
use Rattle.pi_region.proofs.trailed.Trailed.word_at.Given as goal

abbrev pub invariant-loop-past : goal.invariant-loop-past
invariant-loop-past l = (j : Image) × Stands l.self j l.n l.past × (back l.len j ≡ back l.len l.self)

abbrev pub decreases-loop-past : goal.decreases-loop-past
decreases-loop-past l = l.past.end
