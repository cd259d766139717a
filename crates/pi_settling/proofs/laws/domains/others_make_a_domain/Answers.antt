use Rattle.pi_settling.proofs.ValueLemmas.{all_but_is_a_domain, all_but_has_the_others}
use Rattle.pi_settling.proofs.laws.domains.others_make_a_domain.Goals as goal

pub returns-clause-domain : goal.returns-clause-domain
returns-clause-domain c = all_but_is_a_domain

pub returns-clause-values : goal.returns-clause-values
returns-clause-values c = all_but_has_the_others
