use Rattle.pi_label.proofs.PickLemmas.{IsSmallestTo}
use Rattle.pi_label.proofs.picking.smallest_open.Given as goal

abbrev pub invariant-loop-i : goal.invariant-loop-i
invariant-loop-i l = IsSmallestTo l.domains l.smallest l.i
