use Rattle.pi_prop_places.proofs.KeepLemmas.{KeptBefore}
use Rattle.pi_prop_filters.proofs.FixedLemmas.{LeftByAll}
use Rattle.pi_prop_filters.proofs.different.filter_different.Given as goal

abbrev pub invariant-loop-k : goal.invariant-loop-k
invariant-loop-k g l = KeptBefore l.k (LeftByAll l.fixed.items) (g.P.Places.domains l.initial.places) (g.P.Places.domains l.places)
