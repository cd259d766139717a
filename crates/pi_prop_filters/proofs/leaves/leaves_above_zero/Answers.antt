use Rattle.std.proofs.Common.{arith, ◌+ℤ◌, ◌-ℤ◌, ◌∙◌, ℤ, pos, ap, refl}
use Rattle.pi_prop_spec.specs.Reified.{LeavesValues, of_terms}
use Rattle.pi_prop_spec.specs.Sums.{least_of_all, negated, AtMostKeeps}
use Rattle.pi_prop_places.proofs.SideLemmas.{coefficients_of}
use Rattle.pi_prop_filters.proofs.BitLemmas.{back, sum_is, minus_is, small_minus, tested}
use Rattle.pi_prop_filters.proofs.LeaveLemmas.{are_terms, above_zero_leaves}
use Rattle.pi_prop_filters.proofs.leaves.leaves_above_zero.Goals as goal

pub extremes-all-requires-clause-coefficients : goal.extremes-all-requires-clause-coefficients
extremes-all-requires-clause-coefficients g c = coefficients_of 0 c.args.terms.now c.requires.limits.2

pub returns : goal.returns
returns g c =
    let ts = c.args.terms.now in
    let m = c.args.constant in
    let ds = of_terms (g.P.Places.domains c.args.places.now) in
    let all = c.extremes-all in
    let small = all.ensures.small in
    let narrow = c.requires.limits.3 in
    let other = minus_is _ _ (pos 1) m refl (back m (omega (arith, narrow))) (omega arith) (omega (arith, narrow)) in
    tested _ ((pos 1 -ℤ m) +ℤ least_of_all (negated ts) ds) (LeavesValues (AtMostKeeps (negated ts) (pos 1 -ℤ m) ds) ds)
    (sum_is _ _ (pos 1 -ℤ m) all.result.opposite other (back all.result.opposite (omega (arith, small.1))) (small_minus (pos 1) m (omega arith) (omega (arith, narrow))) (omega (arith, small.1)) ∙ ap (λ (x : ℤ). (pos 1 -ℤ m) +ℤ x) all.ensures.opposite)
    (above_zero_leaves ts (pos 1 -ℤ m) ds (are_terms ts m (g.P.Places.domains c.args.places.now) c.requires.count c.requires.limits c.requires.values all.ensures.spans))
