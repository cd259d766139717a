use Rattle.pi_settling.proofs.EventLemmas.{no_change_no_events}
use Rattle.pi_settling.proofs.TwiceLemmas.{stable_stays_stable}
use Rattle.pi_settling.proofs.LoadLemmas.{settling_twice_is_once}
use Rattle.pi_settling.proofs.laws.settling.settling_again_adds_nothing.Goals as goal

pub returns-clause-events : goal.returns-clause-events
returns-clause-events c = no_change_no_events

pub returns-clause-stable : goal.returns-clause-stable
returns-clause-stable c = stable_stays_stable

pub returns-clause-once : goal.returns-clause-once
returns-clause-once c = settling_twice_is_once
