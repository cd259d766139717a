use Rattle.pi_constraints.proofs.ValueLemmas.{value_goes_by_variables, unbound_is_its_own_value, bound_has_value_of_its_term, value_has_none_bound, ground_is_its_own_value}
use Rattle.pi_constraints.proofs.laws.value.values_replace_throughout.Goals as goal

pub returns-clause-variables : goal.returns-clause-variables
returns-clause-variables c = value_goes_by_variables

pub returns-clause-unbound : goal.returns-clause-unbound
returns-clause-unbound c = unbound_is_its_own_value

pub returns-clause-bound : goal.returns-clause-bound
returns-clause-bound c = bound_has_value_of_its_term

pub returns-clause-none_left : goal.returns-clause-none_left
returns-clause-none_left c = value_has_none_bound

pub returns-clause-ground : goal.returns-clause-ground
returns-clause-ground c = ground_is_its_own_value
