use Rattle.std.proofs.Common.{◌≡◌, ◌++◌, suc, ◌≤ℤ◌, pos, ◌+ℤ◌, neg_ℤ}
use Rattle.std.specs.Int.{int_gap}
use Rattle.pi_constraints.specs.declared.domain.TheConstants.{MAX_VALUE}
use Rattle.pi_agent.specs.Lost.{excluded, lost_from}
use Rattle.pi_agent.proofs.losses.push_lost_between.Given as goal

abbrev pub invariant-loop-from : goal.invariant-loop-from
invariant-loop-from l = (l.events ++ excluded l.v l.ends (lost_from l.new l.from (int_gap l.from (l.span.hi +ℤ pos 1))) ≡ l.initial.events ++ excluded l.v l.ends (lost_from l.new l.span.lo (suc (int_gap l.span.lo l.span.hi))))
    × (neg_ℤ MAX_VALUE ≤ℤ l.from) × (l.from ≤ℤ (MAX_VALUE +ℤ pos 1))

abbrev pub decreases-loop-from : goal.decreases-loop-from
decreases-loop-from l = int_gap l.from (l.span.hi +ℤ pos 1)
