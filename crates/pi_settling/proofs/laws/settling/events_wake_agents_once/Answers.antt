use Rattle.pi_settling.proofs.AnswerLemmas.{leads_are_followed, agents_are_woken_once}
use Rattle.pi_settling.proofs.laws.settling.events_wake_agents_once.Goals as goal

pub returns-clause-leads : goal.returns-clause-leads
returns-clause-leads c = leads_are_followed

pub returns-clause-once : goal.returns-clause-once
returns-clause-once c = agents_are_woken_once
