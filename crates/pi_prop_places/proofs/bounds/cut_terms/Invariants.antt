use Rattle.std.proofs.Common.{drop}
use Rattle.pi_prop_places.specs.Changes.{AreCutFrom}
use Rattle.pi_prop_places.specs.Terms.{sides_keep}
use Rattle.pi_prop_places.proofs.bounds.cut_terms.Given as goal

abbrev pub invariant-loop-i : goal.invariant-loop-i
invariant-loop-i g l =
    let old = g.P.Places.domains l.initial.places in
    AreCutFrom l.first l.i (sides_keep l.sides.above l.sides.below l.terms (drop l.first old)) old (g.P.Places.domains l.places)
