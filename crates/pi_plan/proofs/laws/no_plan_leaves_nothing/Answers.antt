use Rattle.pi_plan.proofs.LawLemmas.{nothing_left}
use Rattle.pi_plan.proofs.laws.no_plan_leaves_nothing.Goals as goal

pub returns : goal.returns
returns c = nothing_left
