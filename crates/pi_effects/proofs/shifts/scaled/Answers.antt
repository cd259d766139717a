use Rattle.pi_effects.proofs.ShiftLemmas.{scaled_whole, scaled_lost}
use Rattle.pi_effects.proofs.shifts.scaled.Goals as goal

pub returns-then-shifted-distance : goal.returns-then-shifted-distance
returns-then-shifted-distance c = scaled_whole c.args.a c.args.distance c.ranges.a c.requires c.if-shifted-distance.true

pub returns-else-shifted-distance : goal.returns-else-shifted-distance
returns-else-shifted-distance c = scaled_lost c.args.a c.args.distance c.ranges.a c.requires c.if-shifted-distance.false
