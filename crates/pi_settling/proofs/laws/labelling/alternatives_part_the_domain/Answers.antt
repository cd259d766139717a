use Rattle.pi_settling.proofs.ChoiceLemmas.{alternatives_part_the_domain}
use Rattle.pi_settling.proofs.LeftLemmas.{left_is_allowed}
use Rattle.pi_settling.proofs.LabelNarrows.{left_is_a_domain, narrowing_keeps_solutions}
use Rattle.pi_settling.proofs.laws.labelling.alternatives_part_the_domain.Goals as goal

pub returns-clause-parts : goal.returns-clause-parts
returns-clause-parts c = alternatives_part_the_domain

pub returns-clause-left : goal.returns-clause-left
returns-clause-left c = left_is_allowed

pub returns-clause-domain : goal.returns-clause-domain
returns-clause-domain c = left_is_a_domain

pub returns-clause-solutions : goal.returns-clause-solutions
returns-clause-solutions c = narrowing_keeps_solutions
