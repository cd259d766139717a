use Rattle.pi_settling.proofs.ValueLemmas.{values_are_a_domain, values_are_its_own}
use Rattle.pi_settling.proofs.laws.domains.values_make_a_domain.Goals as goal

pub returns-clause-domain : goal.returns-clause-domain
returns-clause-domain c = values_are_a_domain

pub returns-clause-values : goal.returns-clause-values
returns-clause-values c = values_are_its_own
