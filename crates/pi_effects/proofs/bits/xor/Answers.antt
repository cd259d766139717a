use Rattle.pi_effects.proofs.BitLemmas.{xor_is}
use Rattle.pi_effects.proofs.bits.xor.Goals as goal

pub returns : goal.returns
returns c = xor_is c.args.a c.args.b c.ranges.a c.ranges.b
