-- A planner that has come to an end waits for nothing.
use Rattle.std.proofs.Common.{◌≡◌, ℤ, List, None, refl}
use Rattle.pi_terms.specs.Tree.{Tree}
use Rattle.pi_plan.specs.declared.planner.PlanStep.{PlanStep}
use Rattle.pi_plan.specs.declared.planner.Planner.{Planner}
use Rattle.pi_plan.specs.Planner.{waits_for, Leaves}

pub idle_at_end : (step : PlanStep) (p : Planner) → ((s : Tree) (r : ℤ) → step ≡ PlanStep.Expand s r → ⊥) → Leaves step p → waits_for p ≡ None
idle_at_end (PlanStep.Expand s r) p other h = absurd (other s r refl)
idle_at_end (PlanStep.Found plan cost) p other h = h.1
idle_at_end PlanStep.NoPlan p other h = h.1
idle_at_end PlanStep.Memory p other h = h.1
