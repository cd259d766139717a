use Rattle.std.specs.Prelude.{None}
use Rattle.pi_settling.specs.Options.{forward}
use Rattle.pi_label.proofs.PickLemmas.{IsPickedFrom}
use Rattle.pi_label.proofs.picking.first_open.Given as goal

abbrev pub invariant-loop-i : goal.invariant-loop-i
invariant-loop-i l = IsPickedFrom forward l.domains None l.i
