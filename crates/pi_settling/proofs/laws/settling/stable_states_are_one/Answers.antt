use Rattle.pi_settling.proofs.UniqueLemmas.{stable_is_one, settled_is_one, settling_is_one}
use Rattle.pi_settling.proofs.laws.settling.stable_states_are_one.Goals as goal

pub returns-clause-one : goal.returns-clause-one
returns-clause-one c = stable_is_one

pub returns-clause-settled : goal.returns-clause-settled
returns-clause-settled c = settled_is_one

pub returns-clause-ways : goal.returns-clause-ways
returns-clause-ways c = settling_is_one
