-- The first fault of a list.
use Rattle.std.proofs.Common.{Option, ap}
use Rattle.pi_plan.specs.declared.checks.PlanFault.{PlanFault}
use Rattle.pi_plan.specs.Faults.{first_of_two, Refuses}

-- a refusal of the first is one of both
pub refuses_first : (o p : Option PlanFault) (f : PlanFault) → Refuses o f → Refuses (first_of_two o p) f
refuses_first o p PlanFault.Memory h = tt
refuses_first o p (PlanFault.NotGround t) h = ap (λ q. first_of_two q p) h
refuses_first o p (PlanFault.BadCost t) h = ap (λ q. first_of_two q p) h
