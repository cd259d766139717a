use Rattle.pi_prop_places.proofs.KeepLemmas.{KeptBefore}
use Rattle.pi_prop_filters.specs.Intervals.{IsOutside}
use Rattle.pi_prop_filters.specs.Taken.{ends_at}
use Rattle.pi_prop_filters.proofs.full.take_each.Given as goal

abbrev pub invariant-loop-k : goal.invariant-loop-k
invariant-loop-k g l = KeptBefore l.k (λ k. IsOutside l.a l.full (ends_at l.ends k)) (g.P.Places.domains l.initial.places) (g.P.Places.domains l.places)
