use Rattle.std.proofs.Common.{◌-◌}
use Rattle.pi_queue.proofs.HeldLemmas.{LiesBetween}
use Rattle.pi_queue.proofs.asks.count_below.Given as goal

abbrev pub invariant-loop-low : goal.invariant-loop-low
invariant-loop-low g l = LiesBetween l.held l.n l.low l.high

abbrev pub decreases-loop-low : goal.decreases-loop-low
decreases-loop-low g l = l.high - l.low
