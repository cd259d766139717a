use Rattle.pi_effects.proofs.QuotientAnswers.{up_raised, up_unmoved}
use Rattle.pi_effects.proofs.quotients.up.Goals as goal

pub returns-then-have_one_sign : goal.returns-then-have_one_sign
returns-then-have_one_sign c = up_raised c.args.a c.args.b c.in_ok-quotient.quotient c.ranges.a c.ranges.b c.in_ok-quotient.ensures c.if-have_one_sign.ensures

pub returns-else-have_one_sign : goal.returns-else-have_one_sign
returns-else-have_one_sign c = up_unmoved c.args.a c.args.b c.in_ok-quotient.quotient c.ranges.a c.ranges.b c.in_ok-quotient.ensures c.if-have_one_sign.ensures
