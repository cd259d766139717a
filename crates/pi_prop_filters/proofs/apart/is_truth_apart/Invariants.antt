use Rattle.std.proofs.Common.{take}
use Rattle.pi_prop_spec.specs.Places.{sum_places}
use Rattle.pi_prop_filters.specs.Variables.{IsNew}
use Rattle.pi_prop_filters.proofs.apart.is_truth_apart.Given as goal

abbrev pub invariant-loop-i : goal.invariant-loop-i
invariant-loop-i l = IsNew (sum_places (take l.i l.terms)) l.truth
