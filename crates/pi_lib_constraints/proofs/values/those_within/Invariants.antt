use Rattle.std.proofs.Common.{◌≡◌, take, filter}
use Rattle.pi_settling.specs.Values.{can_have}
use Rattle.pi_lib_constraints.proofs.values.those_within.Given as goal

abbrev pub invariant-loop-k : goal.invariant-loop-k
invariant-loop-k l = l.within.items ≡ filter can_have (take l.k l.numbers)
