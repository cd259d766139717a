use Rattle.std.proofs.Common.{◌≡◌, map, take}
use Rattle.pi_prop_spec.specs.Solutions.{value_of}
use Rattle.pi_sat_search.specs.Assigned.{assigned}
use Rattle.pi_sat_search.proofs.solutions.values_of.Given as goal

abbrev pub invariant-loop-i : goal.invariant-loop-i
invariant-loop-i l = l.all.items ≡ map (value_of (assigned l.values)) (take l.i l.items)
