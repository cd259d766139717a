use Rattle.std.proofs.Common.{◌≡◌}
use Rattle.pi_queue.specs.Ends.{numbers_below}
use Rattle.pi_queue.proofs.propagation.propagate.Given as goal

abbrev pub invariant-loop-i : goal.invariant-loop-i
invariant-loop-i g l = l.waiting ≡ numbers_below l.i
