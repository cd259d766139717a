use Rattle.pi_solve_spec.proofs.CostLemmas.{steps_go_by_cost, reached_goes_by_cost, less_is_exhausted}
use Rattle.pi_solve_spec.proofs.laws.plans.the_rest_is_a_number.Goals as goal

pub returns-clause-steps : goal.returns-clause-steps
returns-clause-steps c = steps_go_by_cost

pub returns-clause-reached : goal.returns-clause-reached
returns-clause-reached c = reached_goes_by_cost

pub returns-clause-less : goal.returns-clause-less
returns-clause-less c = less_is_exhausted
