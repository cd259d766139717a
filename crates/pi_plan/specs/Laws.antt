-- Where there is no plan, no state is left to be asked for.
use Rattle.std.specs.Prelude.{ℕ, Bool, List}
use Rattle.pi_terms.specs.Tree.{Tree}
use Rattle.pi_plan.specs.declared.given.GivenState.{GivenState}
use Rattle.pi_plan.specs.Plan.{Wanted, HasNoPlan}
use Rattle.pi_plan.specs.Given.{over}
use Rattle.pi_plan.specs.Planner.{MayAsk}

abbrev pub NoPlanLeavesNothing : Type 0
NoPlanLeavesNothing = (given : List GivenState) (by_rest : Bool) (w : Wanted) (s : Tree) (r : ℕ) → HasNoPlan (over given by_rest) w → MayAsk given by_rest w s r → ⊥
