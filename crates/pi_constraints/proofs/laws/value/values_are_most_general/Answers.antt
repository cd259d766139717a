use Rattle.pi_constraints.proofs.ValueLemmas.{values_solve, value_has_same_instances}
use Rattle.pi_constraints.proofs.laws.value.values_are_most_general.Goals as goal

pub returns-clause-solve : goal.returns-clause-solve
returns-clause-solve c = values_solve

pub returns-clause-instances : goal.returns-clause-instances
returns-clause-instances c = value_has_same_instances
