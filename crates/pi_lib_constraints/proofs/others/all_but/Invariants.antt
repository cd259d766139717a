use Rattle.std.proofs.Common.{◌≡◌, ◌++◌, drop, neg_ℤ}
use Rattle.pi_constraints.specs.declared.domain.TheConstants.{MAX_VALUE}
use Rattle.pi_settling.specs.Values.{gaps_from}
use Rattle.pi_lib_constraints.proofs.others.all_but.Given as goal

-- the gaps so far, and those that are left, are all
abbrev pub invariant-loop-k : goal.invariant-loop-k
invariant-loop-k l = l.gaps.items ++ gaps_from l.least (drop l.k l.spans) ≡ gaps_from (neg_ℤ MAX_VALUE) l.spans
