use Rattle.pi_engine_code.proofs.LaidSizes.{Counted}
use Rattle.pi_engine_code.proofs.build.sizes.counts_of.Given as goal

-- so many are counted
abbrev pub invariant-loop-i : goal.invariant-loop-i
invariant-loop-i l = Counted l.goal l.counts.items l.i
