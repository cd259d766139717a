use Rattle.std.proofs.Common.{ap, ◌∙◌, ℤ, Some, neg_ℤ}
use Rattle.std.specs.Int.{w128}
use Rattle.std.proofs.lemmas.Int.{to_z-of_z}
use Rattle.pi_prop_places.proofs.SumFilterLemmas.{equal_filtered}
use Rattle.pi_prop_places.proofs.SideLemmas.{coefficients_of}
use Rattle.pi_prop_places.proofs.sums.cut_equal.Goals as goal

pub cut_terms-requires-clause-coefficients : goal.cut_terms-requires-clause-coefficients
cut_terms-requires-clause-coefficients g c = coefficients_of 0 c.args.terms.now c.requires.limits.2

pub returns : goal.returns
returns g c =
    equal_filtered c.args.first c.args.terms.now c.args.constant c.equal-sides.result.above c.equal-sides.result.below (g.P.Places.domains c.args.places.now) _ (c.equal-sides.ensures.above ∙ ap (λ (z : ℤ). Some z) (to_z-of_z w128 c.args.constant c.ranges.constant)) (c.equal-sides.ensures.below ∙ ap (λ (z : ℤ). Some (neg_ℤ z)) (to_z-of_z w128 c.args.constant c.ranges.constant)) c.requires.count c.in_ok-cut_terms.ensures
