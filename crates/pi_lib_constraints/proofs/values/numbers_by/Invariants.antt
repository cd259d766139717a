use Rattle.std.proofs.Common.{◌≡◌}
use Rattle.pi_settling.specs.Values.{numbers_by}
use Rattle.pi_lib_constraints.proofs.values.numbers_by.Given as goal

abbrev pub invariant-loop-k : goal.invariant-loop-k
invariant-loop-k l = l.numbers.items ≡ numbers_by l.k l.low l.step
