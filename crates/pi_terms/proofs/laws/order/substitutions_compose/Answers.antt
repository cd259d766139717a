use Rattle.pi_terms.proofs.VariableLemmas.{substitution, ground_stays, only_its_variables_count}
use Rattle.pi_terms.proofs.laws.order.substitutions_compose.Goals as goal

pub returns-clause-composes : goal.returns-clause-composes
returns-clause-composes c = substitution

pub returns-clause-ground : goal.returns-clause-ground
returns-clause-ground c = ground_stays

pub returns-clause-variables : goal.returns-clause-variables
returns-clause-variables c = only_its_variables_count
