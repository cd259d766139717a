use Rattle.pi_prop_places.proofs.WholeLemmas.{EmptiedBefore}
use Rattle.pi_prop_places.proofs.whole.take_all.Given as goal

abbrev pub invariant-loop-k : goal.invariant-loop-k
invariant-loop-k g l = EmptiedBefore l.k (g.P.Places.domains l.initial.places) (g.P.Places.domains l.places)
