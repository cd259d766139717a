-- Two, and any other number.
use Rattle.pi_rewrite_sites.proofs.UnitLemmas.{first-two, first-not}
use Rattle.pi_rewrite_sites.proofs.units.first_of_two.Goals as goal

pub returns-then-exps-eq2 : goal.returns-then-exps-eq2
returns-then-exps-eq2 c = first-two c.args.exps.now c.index-exps-0.result c.if-exps-eq2.true c.index-exps-0.is

pub returns : goal.returns
returns c = first-not c.args.exps.now c.if-exps-eq2.false
