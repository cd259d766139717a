use Rattle.std.proofs.Common.{arith, ◌≡◌, ◌+ℤ◌, ◌∙◌, ℤ, pos, ap, sym, refl, to_z, of_z}
use Rattle.std.specs.Int.{w128}
use Rattle.pi_prop_spec.specs.Reified.{of_terms}
use Rattle.pi_prop_spec.specs.Sums.{least_of_all}
use Rattle.pi_prop_places.proofs.SideLemmas.{coefficients_of}
use Rattle.pi_prop_filters.proofs.BitLemmas.{back, sum_is, turned_true, turned_false}
use Rattle.pi_prop_filters.proofs.LeaveLemmas.{are_terms, unequal_leaves, unequal_leaves_none}
use Rattle.pi_prop_filters.proofs.leaves.leaves_unequal.Goals as goal

pub extremes-all-requires-clause-coefficients : goal.extremes-all-requires-clause-coefficients
extremes-all-requires-clause-coefficients g c = coefficients_of 0 c.args.terms.now c.requires.limits.2

pub returns-then-constant-all-ne0 : goal.returns-then-constant-all-ne0
returns-then-constant-all-ne0 g c =
    let ts = c.args.terms.now in
    let m = c.args.constant in
    let ds = g.P.Places.domains c.args.places.now in
    let all = c.extremes-all in
    let parts : to_z w128 (of_z w128 m) +ℤ to_z w128 (of_z w128 all.result.least) ≡ m +ℤ least_of_all ts (of_terms ds) =
    (λ i. back m (omega (arith, c.requires.limits.3)) i +ℤ back all.result.least (omega (arith, all.ensures.small.0)) i) ∙ ap (λ (x : ℤ). m +ℤ x) all.ensures.least in (
      λ t. unequal_leaves ts m (of_terms ds) (are_terms ts m ds c.requires.count c.requires.limits c.requires.values all.ensures.spans) (coefficients_of 0 ts c.requires.limits.2)
          (λ fixed e. c.if-constant-all-ne0.true (ap (of_z w128) (parts ∙ e))),
      λ f. refl,
    )

pub returns : goal.returns
returns g c =
    let ts = c.args.terms.now in
    let m = c.args.constant in
    let ds = g.P.Places.domains c.args.places.now in
    let all = c.extremes-all in
    let terms = are_terms ts m ds c.requires.count c.requires.limits c.requires.values all.ensures.spans in
    let h = c.are_fixed.ensures in
    let sum = sum_is _ _ m all.result.least (back m (omega (arith, c.requires.limits.3))) (back all.result.least (omega (arith, all.ensures.small.0))) (omega (arith, c.requires.limits.3)) (omega (arith, all.ensures.small.0))
    ∙ ap (λ (x : ℤ). m +ℤ x) all.ensures.least in
    let zero : m +ℤ least_of_all ts (of_terms ds) ≡ pos 0 = sym sum ∙ ap (to_z w128) c.if-constant-all-ne0.false in (
      λ t. unequal_leaves ts m (of_terms ds) terms (coefficients_of 0 ts c.requires.limits.2) (λ fixed e. turned_false c.are_fixed.result (h.1 fixed) t),
      λ f. turned_true c.are_fixed.result (λ t. unequal_leaves_none ts m (of_terms ds) terms (h.0 t) zero f),
    )
