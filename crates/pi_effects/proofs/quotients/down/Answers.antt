use Rattle.pi_effects.proofs.QuotientAnswers.{down_lowered, down_unmoved}
use Rattle.pi_effects.proofs.quotients.down.Goals as goal

pub returns-then-have_opposite_signs : goal.returns-then-have_opposite_signs
returns-then-have_opposite_signs c = down_lowered c.args.a c.args.b c.in_ok-quotient.quotient c.ranges.a c.ranges.b c.in_ok-quotient.ensures c.if-have_opposite_signs.ensures

pub returns-else-have_opposite_signs : goal.returns-else-have_opposite_signs
returns-else-have_opposite_signs c = down_unmoved c.args.a c.args.b c.in_ok-quotient.quotient c.ranges.a c.ranges.b c.in_ok-quotient.ensures c.if-have_opposite_signs.ensures
