use Rattle.std.proofs.Common.{◌≡◌, ◌∙◌, ◌*ℤ◌, sym, subst, FitsSigned, to_z, of_z}
use Rattle.std.specs.Int.{int_min, int_max, w128}
use Rattle.std.proofs.lemmas.Int.{to_z-of_z}
use Rattle.pi_prop_spec.specs.Places.{domain_at}
use Rattle.pi_prop_spec.specs.Rules.{least_corner, greatest_corner}
use Rattle.std.proofs.lemmas.Result.{IfOk-from_err}
use Rattle.pi_prop_filters.proofs.CornerLemmas.{least_corner_fits, greatest_corner_fits}
use Rattle.pi_prop_filters.proofs.ProductLemmas.{product_filtered}
use Rattle.pi_prop_filters.proofs.products.filter_product.Goals as goal

pub returns : goal.returns
returns g c =
    let ds = g.P.Places.domains c.args.places.now in
    let x = c.at-first in
    let y = c.at-second in
    let a = x.ensures in
    let b = y.ensures in
    let f0 : FitsSigned w128 c.corners-corners.result.lo = subst (FitsSigned w128) (sym c.corners-corners.ensures.lo) (least_corner_fits x.result.lo x.result.hi y.result.lo y.result.hi a.low a.high b.low b.high) in
    let f1 : FitsSigned w128 c.corners-corners.result.hi = subst (FitsSigned w128) (sym c.corners-corners.ensures.hi) (greatest_corner_fits x.result.lo x.result.hi y.result.lo y.result.hi a.low a.high b.low b.high) in
    let lo : to_z w128 (of_z w128 c.corners-corners.result.lo) ≡ least_corner (domain_at ds 1) (domain_at ds 2) =
    to_z-of_z w128 c.corners-corners.result.lo f0 ∙ (c.corners-corners.ensures.lo ∙ (λ i. int_min (int_min (a.lo i *ℤ b.lo i) (a.lo i *ℤ b.hi i)) (int_min (a.hi i *ℤ b.lo i) (a.hi i *ℤ b.hi i)))) in
    let hi : to_z w128 (of_z w128 c.corners-corners.result.hi) ≡ greatest_corner (domain_at ds 1) (domain_at ds 2) =
    to_z-of_z w128 c.corners-corners.result.hi f1 ∙ (c.corners-corners.ensures.hi ∙ (λ i. int_max (int_max (a.lo i *ℤ b.lo i) (a.lo i *ℤ b.hi i)) (int_max (a.hi i *ℤ b.lo i) (a.hi i *ℤ b.hi i)))) in
    product_filtered ds _ _ _ c.at-product.result x.result y.result _ _ c.requires (record { lo = c.at-product.ensures.lo; hi = c.at-product.ensures.hi }) (record { lo = a.lo; hi = a.hi }) (record { lo = b.lo; hi = b.hi })
    c.in_ok-keep_between.ensures lo hi c.in_ok-keep_factor.ensures c.in_ok-keep_factor-2.ensures

pub corners-corners-requires-clause-low : goal.corners-corners-requires-clause-low
corners-corners-requires-clause-low g c = c.at-first.ensures.low

pub corners-corners-requires-clause-high : goal.corners-corners-requires-clause-high
corners-corners-requires-clause-high g c = c.at-first.ensures.high

pub corners-corners-requires-clause-other_low : goal.corners-corners-requires-clause-other_low
corners-corners-requires-clause-other_low g c = c.at-second.ensures.low

pub corners-corners-requires-clause-other_high : goal.corners-corners-requires-clause-other_high
corners-corners-requires-clause-other_high g c = c.at-second.ensures.high

pub returns-in_err-keep_between : goal.returns-in_err-keep_between
returns-in_err-keep_between g c = IfOk-from_err c.from_residual.result _ c.from_residual.ensures.0

pub returns-in_err-keep_factor : goal.returns-in_err-keep_factor
returns-in_err-keep_factor g c = IfOk-from_err c.from_residual-in_err-keep_factor.result _ c.from_residual-in_err-keep_factor.ensures.0

pub returns-in_err-keep_factor-2 : goal.returns-in_err-keep_factor-2
returns-in_err-keep_factor-2 g c = IfOk-from_err c.from_residual-in_err-keep_factor-2.result _ c.from_residual-in_err-keep_factor-2.ensures.0
