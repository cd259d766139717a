use Rattle.pi_prop_filters.proofs.DistinctLemmas.{TakenBefore}
use Rattle.pi_prop_filters.proofs.full.take_full.Given as goal

abbrev pub invariant-loop-i : goal.invariant-loop-i
invariant-loop-i g l = TakenBefore l.i l.ends l.sorted (g.P.Places.domains l.initial.places) (g.P.Places.domains l.places)
