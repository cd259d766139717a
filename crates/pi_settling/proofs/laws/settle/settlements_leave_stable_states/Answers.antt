use Rattle.pi_settling.proofs.SettleLemmas.{leaves_the_stable_state, leaves_nothing}
use Rattle.pi_settling.proofs.laws.settle.settlements_leave_stable_states.Goals as goal

pub returns-clause-left : goal.returns-clause-left
returns-clause-left c = leaves_the_stable_state

pub returns-clause-nothing : goal.returns-clause-nothing
returns-clause-nothing c = leaves_nothing
