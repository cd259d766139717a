use Rattle.pi_plan.proofs.PlanLawLemmas.{none_is_cheaper, best_cost_is_its_number, best_number_is_one}
use Rattle.pi_plan.proofs.laws.best_plans_are_cheapest.Goals as goal

pub returns-clause-cheapest : goal.returns-clause-cheapest
returns-clause-cheapest c = none_is_cheaper

pub returns-clause-number : goal.returns-clause-number
returns-clause-number c = best_cost_is_its_number

pub returns-clause-unique : goal.returns-clause-unique
returns-clause-unique c = best_number_is_one
