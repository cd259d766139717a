use Rattle.std.proofs.Common.{◌-◌}
use Rattle.pi_constraints.specs.Stored.{stored}
use Rattle.pi_queue.proofs.HeldLemmas.{LiesBetween}
use Rattle.pi_lib_solve.proofs.values.count_below.Given as goal

abbrev pub invariant-loop-low : goal.invariant-loop-low
invariant-loop-low g l = LiesBetween (stored (g.S.StateStore.seen l.s).now.state l.n) l.value l.low l.high

abbrev pub decreases-loop-low : goal.decreases-loop-low
decreases-loop-low g l = l.high - l.low
