use Rattle.pi_settling.proofs.SettleLemmas.{gives_the_stable_state, finds_what_is_emptied, gives_no_other, finds_each_that_is_emptied, settled_settles, calm_is_settled}
use Rattle.pi_settling.proofs.laws.settle.settling_is_computed.Goals as goal

pub returns-clause-stable : goal.returns-clause-stable
returns-clause-stable c = gives_the_stable_state

pub returns-clause-emptied : goal.returns-clause-emptied
returns-clause-emptied c = finds_what_is_emptied

pub returns-clause-other : goal.returns-clause-other
returns-clause-other c = gives_no_other

pub returns-clause-each : goal.returns-clause-each
returns-clause-each c = finds_each_that_is_emptied

pub returns-clause-settles : goal.returns-clause-settles
returns-clause-settles c = settled_settles

pub returns-clause-calm : goal.returns-clause-calm
returns-clause-calm c = calm_is_settled
