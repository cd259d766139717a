use Rattle.pi_prop_places.specs.Changes.{AreCutFrom}
use Rattle.pi_prop_places.proofs.RootLemmas.{all_roots}
use Rattle.pi_prop_places.proofs.roots.remove_each.Given as goal

abbrev pub invariant-loop-i : goal.invariant-loop-i
invariant-loop-i g l =
    let old = g.P.Places.domains l.initial.places in
    AreCutFrom l.first l.i (all_roots l.terms l.sum l.first old) old (g.P.Places.domains l.places)
