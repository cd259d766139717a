use Rattle.pi_settling.proofs.CalmLemmas.{empty_is_calm, without_constraints_is_calm, calm_goes_by_variables}
use Rattle.pi_settling.proofs.laws.calm.states_are_calm.Goals as goal

pub returns-clause-empty : goal.returns-clause-empty
returns-clause-empty c = empty_is_calm

pub returns-clause-bare : goal.returns-clause-bare
returns-clause-bare c = without_constraints_is_calm

pub returns-clause-variables : goal.returns-clause-variables
returns-clause-variables c = calm_goes_by_variables
