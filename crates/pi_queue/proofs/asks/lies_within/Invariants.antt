use Rattle.std.proofs.Common.{length, ◌-◌, ◌+◌, take}
use Rattle.pi_prop_places.proofs.SharedLemmas.{AreValuesOf}
use Rattle.pi_queue.proofs.asks.lies_within.Given as goal

abbrev pub invariant-loop-i : goal.invariant-loop-i
invariant-loop-i g l = AreValuesOf (take l.i l.held) l.others

abbrev pub decreases-loop-i : goal.decreases-loop-i
decreases-loop-i g l = (length l.held - l.i) + (length l.others - l.j)
