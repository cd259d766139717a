use Rattle.std.proofs.Common.{ap, ◌∙◌, ℤ, Some, pos, ◌-ℤ◌}
use Rattle.std.specs.Int.{w128}
use Rattle.std.proofs.lemmas.Int.{to_z-of_z}
use Rattle.pi_prop_places.proofs.SumFilterLemmas.{at_least_filtered}
use Rattle.pi_prop_places.proofs.SideLemmas.{coefficients_of}
use Rattle.pi_prop_places.proofs.sums.cut_above_zero.Goals as goal

pub cut_terms-requires-clause-coefficients : goal.cut_terms-requires-clause-coefficients
cut_terms-requires-clause-coefficients g c = coefficients_of 0 c.args.terms.now c.requires.limits.2

pub returns : goal.returns
returns g c =
    at_least_filtered c.args.first c.args.terms.now (pos 1 -ℤ c.args.constant) c.above_zero-sides.result.above c.above_zero-sides.result.below (g.P.Places.domains c.args.places.now) _ (c.above_zero-sides.ensures.above) (c.above_zero-sides.ensures.below ∙ ap (λ (z : ℤ). Some (pos 1 -ℤ z)) (to_z-of_z w128 c.args.constant c.ranges.constant)) c.requires.count c.in_ok-cut_terms.ensures
