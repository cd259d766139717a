use Rattle.std.proofs.Common.{length, ◌-◌, ◌+◌, take}
use Rattle.pi_prop_places.proofs.SharedLemmas.{AreValuesOf}
use Rattle.pi_prop_places.proofs.shared.are_within.Given as goal

abbrev pub invariant-loop-i : goal.invariant-loop-i
invariant-loop-i l = AreValuesOf (take l.i l.spans) l.others

abbrev pub decreases-loop-i : goal.decreases-loop-i
decreases-loop-i l = (length l.spans - l.i) + (length l.others - l.j)
