use Rattle.pi_prop_filters.specs.Variables.{StandsBefore}
use Rattle.pi_prop_filters.proofs.apart.stands_before.Given as goal

abbrev pub invariant-loop-k : goal.invariant-loop-k
invariant-loop-k l = StandsBefore l.items l.k l.variable → ⊥
