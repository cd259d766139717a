use Rattle.pi_constraints.proofs.CommonLemmas.{IsDomain-common, has_value-common}
use Rattle.pi_constraints.proofs.laws.unification.domains_have_common_values.Goals as goal

pub returns-clause-domain : goal.returns-clause-domain
returns-clause-domain c = IsDomain-common

pub returns-clause-values : goal.returns-clause-values
returns-clause-values c = has_value-common
