use Rattle.std.proofs.Common.{arith, ◌+ℤ◌, ◌∙◌, ℤ, ap}
use Rattle.pi_prop_spec.specs.Reified.{LeavesValues, of_terms}
use Rattle.pi_prop_spec.specs.Sums.{least_of_all, AtMostKeeps}
use Rattle.pi_prop_places.proofs.SideLemmas.{coefficients_of}
use Rattle.pi_prop_filters.proofs.BitLemmas.{back, sum_is, tested}
use Rattle.pi_prop_filters.proofs.LeaveLemmas.{are_terms, at_most_leaves}
use Rattle.pi_prop_filters.proofs.leaves.leaves_at_most.Goals as goal

pub extremes-all-requires-clause-coefficients : goal.extremes-all-requires-clause-coefficients
extremes-all-requires-clause-coefficients g c = coefficients_of 0 c.args.terms.now c.requires.limits.2

pub returns : goal.returns
returns g c =
    let ts = c.args.terms.now in
    let m = c.args.constant in
    let ds = of_terms (g.P.Places.domains c.args.places.now) in
    let all = c.extremes-all in
    let small = all.ensures.small in
    tested _ (m +ℤ least_of_all ts ds) (LeavesValues (AtMostKeeps ts m ds) ds)
    (sum_is _ _ m all.result.least (back m (omega (arith, c.requires.limits.3))) (back all.result.least (omega (arith, small.0))) (omega (arith, c.requires.limits.3)) (omega (arith, small.0)) ∙ ap (λ (x : ℤ). m +ℤ x) all.ensures.least)
    (at_most_leaves ts m ds (are_terms ts m (g.P.Places.domains c.args.places.now) c.requires.count c.requires.limits c.requires.values all.ensures.spans))
