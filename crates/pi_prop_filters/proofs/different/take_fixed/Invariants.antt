use Rattle.pi_prop_places.specs.Changes.{IsKeptAt}
use Rattle.pi_prop_filters.proofs.FixedLemmas.{LeftBy}
use Rattle.pi_prop_filters.proofs.different.take_fixed.Given as goal

abbrev pub invariant-loop-i : goal.invariant-loop-i
invariant-loop-i g l = IsKeptAt l.k (LeftBy l.fixed l.start l.i l.k) (g.P.Places.domains l.initial.places) (g.P.Places.domains l.places)
