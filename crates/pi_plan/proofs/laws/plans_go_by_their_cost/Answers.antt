use Rattle.pi_plan.proofs.PlanLawLemmas.{costs_at_most_its_rest, valid_from_its_cost_on}
use Rattle.pi_plan.proofs.laws.plans_go_by_their_cost.Goals as goal

pub returns-clause-rest : goal.returns-clause-rest
returns-clause-rest c = costs_at_most_its_rest

pub returns-clause-greater : goal.returns-clause-greater
returns-clause-greater c = valid_from_its_cost_on
