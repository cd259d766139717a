-- A constraint is kept unless one was refused before.
use Rattle.pi_prop_made.proofs.MakingLemmas.{refuse_more, keep_more}
use Rattle.pi_prop_made.proofs.making.Making.keep.Goals as goal

pub returns-in_ok-push-in-None : goal.returns-in_ok-push-in-None
returns-in_ok-push-in-None c = λ m e s. keep_more c.args.self.now c.push.new.self m c.args.constraint c.in-None.is s c.in_ok-push-in-None.ensures.ok e

pub returns-in-Some : goal.returns-in-Some
returns-in-Some c = λ m e s. refuse_more c.args.self.now c.in-Some.field-0 m c.args.constraint c.in-Some.is s
