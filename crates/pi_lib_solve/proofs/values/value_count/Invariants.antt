use Rattle.std.proofs.Common.{◌≡◌, take}
use Rattle.pi_constraints.specs.Domain.{size_of}
use Rattle.pi_constraints.specs.Stored.{stored}
use Rattle.pi_lib_solve.proofs.values.value_count.Given as goal

abbrev pub invariant-loop-k : goal.invariant-loop-k
invariant-loop-k g l = l.count ≡ size_of (take l.k (stored (g.S.StateStore.seen l.s).now.state l.n))
