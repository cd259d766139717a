-- The first refusal counts.
use Rattle.pi_prop_made.proofs.MakingLemmas.{refuse_first, refuse_more}
use Rattle.pi_prop_made.proofs.making.Making.refuse.Goals as goal

pub returns-in-None : goal.returns-in-None
returns-in-None c = λ m d s h. refuse_first c.args.self.now c.args.limit m d c.in-None.is s h

pub returns-in-Some : goal.returns-in-Some
returns-in-Some c = λ m d s h. refuse_more c.args.self.now c.in-Some.field-0 m d c.in-Some.is s
