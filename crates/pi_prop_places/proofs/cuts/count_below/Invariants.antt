use Rattle.std.proofs.Common.{length, ◌-◌, ◌≤◌, drop}
use Rattle.pi_prop_places.proofs.NarrowedCuts.{SameFrom}
use Rattle.pi_prop_places.proofs.cuts.count_below.Given as goal

abbrev pub invariant-loop-gone : goal.invariant-loop-gone
invariant-loop-gone l = (l.gone ≤ length l.spans) × SameFrom l.n (drop l.gone l.spans) l.spans

abbrev pub decreases-loop-gone : goal.decreases-loop-gone
decreases-loop-gone l = length l.spans - l.gone
