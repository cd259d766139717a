use Rattle.pi_effects.proofs.BallLemmas.{integer-not}
use Rattle.pi_effects.proofs.arguments.integer.Goals as goal

pub returns-in_default : goal.returns-in_default
returns-in_default g c = λ t a is. integer-not (g.S.StateStore.seen c.args.s.now) c.args.term t c.look.result is c.in_default.not-Int (c.look.ensures.shows t is a)
