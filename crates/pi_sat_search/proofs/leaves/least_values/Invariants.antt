use Rattle.std.proofs.Common.{◌≡◌, take}
use Rattle.pi_sat_search.specs.Nodes.{least_values}
use Rattle.pi_sat_search.proofs.leaves.least_values.Given as goal

abbrev pub invariant-loop-i : goal.invariant-loop-i
invariant-loop-i l = l.all.items ≡ least_values (take l.i l.present)
