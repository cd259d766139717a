use Rattle.std.proofs.Common.{◌-◌}
use Rattle.pi_terms.proofs.BareLemmas.{SetFrom}
use Rattle.pi_terms.proofs.term.bare.set_sizes.Given as goal

abbrev pub invariant-loop-k : goal.invariant-loop-k
invariant-loop-k l = SetFrom l.fn.cells l.cells (l.count - l.k)
