use Rattle.std.proofs.Common.{arith, ◌≡◌, ◌∙◌, ap, neg_ℤ, ℤ, FitsSigned, to_z, of_z}
use Rattle.std.specs.Int.{w128}
use Rattle.std.proofs.lemmas.Int.{to_z-of_z, fits_signed_from_abs}
use Rattle.pi_prop_spec.specs.Places.{domain_at}
use Rattle.pi_prop_spec.specs.Sums.{least_part}
use Rattle.pi_prop_places.specs.Terms.{rest_with}
use Rattle.pi_prop_places.proofs.SideLemmas.{one_cut}
use Rattle.pi_prop_places.proofs.bounds.cut_one.Goals as goal

pub returns : goal.returns
returns g c =
    let ds = g.P.Places.domains c.args.places.now in
    let p = c.extremes_at-part.result in
    let co : FitsSigned w128 c.args.coefficient = c.ranges.coefficient in
    let f0 : FitsSigned w128 c.args.all.least = fits_signed_from_abs w128 c.args.all.least (omega (arith, c.requires.small.0)) in
    let f1 : FitsSigned w128 c.args.all.opposite = fits_signed_from_abs w128 c.args.all.opposite (omega (arith, c.requires.small.1)) in
    let f2 : FitsSigned w128 p.least = fits_signed_from_abs w128 p.least (omega (arith, c.extremes_at-part.ensures.small.0)) in
    let f3 : FitsSigned w128 p.opposite = fits_signed_from_abs w128 p.opposite (omega (arith, c.extremes_at-part.ensures.small.1)) in
    let above : c.rest_of-above.result ≡ rest_with c.args.sides.above c.args.all.least p.least = c.rest_of-above.ensures.is ∙ (λ i. rest_with c.args.sides.above (to_z-of_z w128 c.args.all.least f0 i) (to_z-of_z w128 p.least f2 i)) in
    let below : c.rest_of-below.result ≡ rest_with c.args.sides.below c.args.all.opposite p.opposite = c.rest_of-below.ensures.is ∙ (λ i. rest_with c.args.sides.below (to_z-of_z w128 c.args.all.opposite f1 i) (to_z-of_z w128 p.opposite f3 i)) in
    let back : to_z w128 (of_z w128 c.args.coefficient) ≡ c.args.coefficient = to_z-of_z w128 c.args.coefficient co in
    let least : p.least ≡ least_part c.args.coefficient (domain_at ds c.args.k) = c.extremes_at-part.ensures.least ∙ ap (λ (z : ℤ). least_part z (domain_at ds c.args.k)) back in
    let opposite : p.opposite ≡ least_part (neg_ℤ c.args.coefficient) (domain_at ds c.args.k) = c.extremes_at-part.ensures.opposite ∙ ap (λ (z : ℤ). least_part (neg_ℤ z) (domain_at ds c.args.k)) back in
    let cut = simp to_z-of_z at c.in_ok-cut_term.ensures in
    one_cut ds _ c.args.k c.args.coefficient c.args.all.least c.args.all.opposite p.least p.opposite c.args.sides.above c.args.sides.below c.rest_of-above.result c.rest_of-below.result above below least opposite cut
