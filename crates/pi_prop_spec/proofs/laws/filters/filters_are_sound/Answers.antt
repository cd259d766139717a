use Rattle.pi_prop_spec.proofs.FilterLemmas.{filters_are_monotone, filters_keep_solutions, filters_are_decisive}
use Rattle.pi_prop_spec.proofs.laws.filters.filters_are_sound.Goals as goal

pub returns-clause-monotone : goal.returns-clause-monotone
returns-clause-monotone c = filters_are_monotone

pub returns-clause-solutions : goal.returns-clause-solutions
returns-clause-solutions c = filters_keep_solutions

pub returns-clause-decisive : goal.returns-clause-decisive
returns-clause-decisive c = filters_are_decisive
