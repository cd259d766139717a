use Rattle.pi_plan.proofs.RootLemmas.{StandFrom}
use Rattle.pi_plan.proofs.order.compare.Given as goal

abbrev pub invariant-loop-i : goal.invariant-loop-i
invariant-loop-i l = StandFrom l.one l.other l.i
