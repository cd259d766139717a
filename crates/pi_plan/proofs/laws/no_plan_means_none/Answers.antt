use Rattle.pi_plan.proofs.PlanLawLemmas.{none_where_there_is_none, found_or_none_of_wanted, smaller_is_exhausted_too}
use Rattle.pi_plan.proofs.laws.no_plan_means_none.Goals as goal

pub returns-clause-none : goal.returns-clause-none
returns-clause-none c = none_where_there_is_none

pub returns-clause-exclusive : goal.returns-clause-exclusive
returns-clause-exclusive c = found_or_none_of_wanted

pub returns-clause-smaller : goal.returns-clause-smaller
returns-clause-smaller c = smaller_is_exhausted_too
