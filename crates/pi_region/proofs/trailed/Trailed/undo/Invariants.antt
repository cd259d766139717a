use Rattle.std.proofs.Common.{◌≡◌}
use Rattle.pi_region.specs.Back.{back}
use Rattle.pi_region.proofs.trailed.Trailed.undo.Given as goal

abbrev pub invariant-loop-self : goal.invariant-loop-self
invariant-loop-self l = back l.len l.self ≡ back l.len l.initial.self

abbrev pub decreases-loop-self : goal.decreases-loop-self
decreases-loop-self l = l.self.trail
