use Rattle.pi_effects.proofs.BitLemmas.{or_is}
use Rattle.pi_effects.proofs.bits.or.Goals as goal

pub returns : goal.returns
returns c = or_is c.args.a c.args.b c.ranges.a c.ranges.b
