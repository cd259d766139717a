use Rattle.pi_effects.proofs.QuotientLaws.{floor_rounded, ceiling_rounded}
use Rattle.pi_effects.proofs.laws.quotients.Goals as goal

pub returns-clause-down : goal.returns-clause-down
returns-clause-down c = floor_rounded

pub returns-clause-up : goal.returns-clause-up
returns-clause-up c = ceiling_rounded
