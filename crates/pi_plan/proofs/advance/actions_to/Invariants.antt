use Rattle.std.proofs.Common.{map, Bor}
use Rattle.std.specs.Prelude.{reverse}
use Rattle.pi_terms.specs.Tree.{Tree}
use Rattle.pi_plan.proofs.PlanOfLemmas.{Building}
use Rattle.pi_plan.proofs.advance.actions_to.Given as goal

abbrev pub invariant-loop-way : goal.invariant-loop-way
invariant-loop-way l = Building l.ways l.number l.at (reverse (map (λ (a : Bor Tree). a.now) l.actions.items))

abbrev pub decreases-loop-way : goal.decreases-loop-way
decreases-loop-way l = l.at
