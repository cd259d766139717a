use Rattle.pi_settling.proofs.CalmLemmas.{calm_is_stable, calm_is_settled, new_variables_are_settled, without_constraints_is_settled}
use Rattle.pi_settling.proofs.laws.calm.settling_adds_nothing.Goals as goal

pub returns-clause-stable : goal.returns-clause-stable
returns-clause-stable c = calm_is_stable

pub returns-clause-settled : goal.returns-clause-settled
returns-clause-settled c = calm_is_settled

pub returns-clause-new : goal.returns-clause-new
returns-clause-new c = new_variables_are_settled

pub returns-clause-bare : goal.returns-clause-bare
returns-clause-bare c = without_constraints_is_settled
