use Rattle.std.proofs.Common.{length, ◌≤◌, take}
use Rattle.pi_prop_places.proofs.NarrowedCuts.{SameUpTo}
use Rattle.pi_prop_places.proofs.cuts.count_up_to.Given as goal

abbrev pub invariant-loop-left : goal.invariant-loop-left
invariant-loop-left l = (l.left ≤ length l.spans) × SameUpTo l.n (take l.left l.spans) l.spans

abbrev pub decreases-loop-left : goal.decreases-loop-left
decreases-loop-left l = l.left
