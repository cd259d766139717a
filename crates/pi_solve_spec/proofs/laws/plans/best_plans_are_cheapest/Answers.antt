use Rattle.pi_solve_spec.proofs.CostLemmas.{plans_keep_the_limit, plans_go_by_cost, best_plans_are_cheapest, least_cost_is_one, no_plan_is_none}
use Rattle.pi_solve_spec.proofs.laws.plans.best_plans_are_cheapest.Goals as goal

pub returns-clause-limit : goal.returns-clause-limit
returns-clause-limit c = plans_keep_the_limit

pub returns-clause-cost : goal.returns-clause-cost
returns-clause-cost c = plans_go_by_cost

pub returns-clause-cheapest : goal.returns-clause-cheapest
returns-clause-cheapest c = best_plans_are_cheapest

pub returns-clause-one : goal.returns-clause-one
returns-clause-one c = least_cost_is_one

pub returns-clause-none : goal.returns-clause-none
returns-clause-none c = no_plan_is_none
