use Rattle.pi_settling.proofs.CalmLemmas.{stable_is_calm}
use Rattle.pi_settling.proofs.CalmEvents.{events_keep_calm, settled_is_calm}
use Rattle.pi_settling.proofs.laws.calm.settling_leaves_calm.Goals as goal

pub returns-clause-stable : goal.returns-clause-stable
returns-clause-stable c = stable_is_calm

pub returns-clause-events : goal.returns-clause-events
returns-clause-events c = events_keep_calm

pub returns-clause-settled : goal.returns-clause-settled
returns-clause-settled c = settled_is_calm
