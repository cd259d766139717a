use Rattle.pi_effects.proofs.BitLemmas.{and_is}
use Rattle.pi_effects.proofs.bits.and.Goals as goal

pub returns : goal.returns
returns c = and_is c.args.a c.args.b c.ranges.a c.ranges.b
