use Rattle.std.proofs.Common.{length, drop, ◌-◌, ◌+◌}
use Rattle.pi_constraints.proofs.MeetLemmas.{Shares}
use Rattle.pi_constraints.proofs.meets.shared_spans.Given as goal

abbrev pub invariant-loop-i : goal.invariant-loop-i
invariant-loop-i l = Shares l.d l.e l.shared.items (drop l.i l.d) (drop l.j l.e)

abbrev pub decreases-loop-i : goal.decreases-loop-i
decreases-loop-i l = (length l.d - l.i) + (length l.e - l.j)
