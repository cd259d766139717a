use Rattle.pi_plan.proofs.RootLemmas.{VariablesFrom}
use Rattle.pi_plan.proofs.checks.is_ground.Given as goal

abbrev pub invariant-loop-i : goal.invariant-loop-i
invariant-loop-i l = VariablesFrom l.term l.i
