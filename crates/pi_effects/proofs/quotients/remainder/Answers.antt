use Rattle.pi_effects.proofs.QuotientAnswers.{remainder_answered}
use Rattle.pi_effects.proofs.quotients.remainder.Goals as goal

pub returns : goal.returns
returns c = remainder_answered c.args.a c.args.b c.wrapping_rem.result c.ranges.a c.ranges.b (record { sfits = c.wrapping_rem.type_inv }) c.if-b-eq0.false c.wrapping_rem.ensures
