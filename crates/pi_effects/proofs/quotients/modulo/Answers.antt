use Rattle.pi_effects.proofs.QuotientAnswers.{modulo_raised, modulo_unmoved}
use Rattle.pi_effects.proofs.quotients.modulo.Goals as goal

pub returns-then-have_opposite_signs : goal.returns-then-have_opposite_signs
returns-then-have_opposite_signs c = modulo_raised c.args.a c.args.b c.in_ok-rest.rest c.ranges.a c.ranges.b c.in_ok-rest.ensures c.if-have_opposite_signs.ensures

pub returns-else-have_opposite_signs : goal.returns-else-have_opposite_signs
returns-else-have_opposite_signs c = modulo_unmoved c.args.a c.args.b c.in_ok-rest.rest c.ranges.a c.ranges.b c.in_ok-rest.ensures c.if-have_opposite_signs.ensures
