use Rattle.std.proofs.Common.{length, drop, ◌-◌, ◌+◌}
use Rattle.pi_prop_places.proofs.AskLemmas.{SharedIn}
use Rattle.pi_prop_places.proofs.asks.spans_share.Given as goal

abbrev pub invariant-loop-i : goal.invariant-loop-i
invariant-loop-i l = SharedIn l.d l.e (drop l.i l.d) (drop l.j l.e)

abbrev pub decreases-loop-i : goal.decreases-loop-i
decreases-loop-i l = (length l.d - l.i) + (length l.e - l.j)
