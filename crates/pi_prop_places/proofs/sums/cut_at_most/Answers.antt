use Rattle.std.proofs.Common.{ap, ◌∙◌, ℤ, Some}
use Rattle.std.specs.Int.{w128}
use Rattle.std.proofs.lemmas.Int.{to_z-of_z}
use Rattle.pi_prop_places.proofs.SumFilterLemmas.{at_most_filtered}
use Rattle.pi_prop_places.proofs.SideLemmas.{coefficients_of}
use Rattle.pi_prop_places.proofs.sums.cut_at_most.Goals as goal

pub cut_terms-requires-clause-coefficients : goal.cut_terms-requires-clause-coefficients
cut_terms-requires-clause-coefficients g c = coefficients_of 0 c.args.terms.now c.requires.limits.2

pub returns : goal.returns
returns g c =
    at_most_filtered c.args.first c.args.terms.now c.args.constant c.at_most-sides.result.above c.at_most-sides.result.below (g.P.Places.domains c.args.places.now) _ (c.at_most-sides.ensures.above ∙ ap (λ (z : ℤ). Some z) (to_z-of_z w128 c.args.constant c.ranges.constant)) (c.at_most-sides.ensures.below) c.requires.count c.in_ok-cut_terms.ensures
