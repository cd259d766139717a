use Rattle.pi_prop_filters.specs.Fixed.{AreFixedPlaces}
use Rattle.pi_prop_filters.proofs.different.fixed_places.Given as goal

abbrev pub invariant-loop-k : goal.invariant-loop-k
invariant-loop-k g l = AreFixedPlaces (g.P.Places.domains l.places) l.k l.fixed.items
