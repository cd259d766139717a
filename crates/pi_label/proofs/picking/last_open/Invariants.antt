use Rattle.std.specs.Prelude.{option_map}
use Rattle.pi_settling.specs.Options.{backward}
use Rattle.pi_label.proofs.PickLemmas.{IsPickedFrom, open_at}
use Rattle.pi_label.proofs.picking.last_open.Given as goal

abbrev pub invariant-loop-i : goal.invariant-loop-i
invariant-loop-i l = IsPickedFrom backward l.domains (option_map (open_at l.domains) l.last) l.i
