use Rattle.std.proofs.Common.{◌∙◌, ◌≤◌, ◌^◌, ℤ, nat_abs, ap, sym, subst, to_z, of_z}
use Rattle.std.specs.Int.{w128}
use Rattle.pi_prop_filters.proofs.CornerLemmas.{value_back, value_small}
use Rattle.std.proofs.lemmas.Result.{IfOk-from_err}
use Rattle.pi_prop_filters.specs.Factors.{FactorStays}
use Rattle.pi_prop_filters.proofs.ProductLemmas.{factor_cut}
use Rattle.pi_prop_places.proofs.KeepLemmas.{keep_none}
use Rattle.pi_prop_filters.proofs.products.keep_factor.Goals as goal

pub returns : goal.returns
returns g c =
    let h = c.if-other.false in
    let k = c.if-other-eq0.false in
    factor_cut c.args.other c.args.product c.args.k _ _ _ (g.P.Places.domains c.args.places.now) _ c.in_ok-keep_scaled.ensures
    (value_back c.args.other.lo c.requires.low) (value_back c.args.product.lo c.requires.product_low) (value_back c.args.product.hi c.requires.product_high)
    (sym (value_back c.args.other.lo c.requires.low) ∙ (ap (to_z w128) h ∙ value_back c.args.other.hi c.requires.high)) (λ e. k (ap (of_z w128) e))

pub returns-then-other : goal.returns-then-other
returns-then-other g c = keep_none c.args.k (FactorStays c.args.other c.args.product) (g.P.Places.domains c.args.places.now) (λ n t same o. absurd (c.if-other.true (ap (of_z w128) same)))

pub returns-then-other-eq0 : goal.returns-then-other-eq0
returns-then-other-eq0 g c =
    keep_none c.args.k (FactorStays c.args.other c.args.product) (g.P.Places.domains c.args.places.now)
    (λ n t same o. absurd (o (sym (value_back c.args.other.lo c.requires.low) ∙ ap (to_z w128) c.if-other-eq0.true)))

pub keep_scaled-requires-clause-coefficient : goal.keep_scaled-requires-clause-coefficient
keep_scaled-requires-clause-coefficient g c = λ e. c.if-other-eq0.false (ap (of_z w128) (sym (value_back c.args.other.lo c.requires.low) ∙ e))

pub keep_scaled-requires-clause-narrow : goal.keep_scaled-requires-clause-narrow
keep_scaled-requires-clause-narrow g c = subst (λ (z : ℤ). nat_abs z ≤ 2 ^ 56) (sym (value_back c.args.other.lo c.requires.low)) (value_small c.args.other.lo c.requires.low)

pub keep_scaled-requires-clause-low : goal.keep_scaled-requires-clause-low
keep_scaled-requires-clause-low g c = subst (λ (z : ℤ). nat_abs z ≤ 2 ^ 56) (sym (value_back c.args.product.lo c.requires.product_low)) (value_small c.args.product.lo c.requires.product_low)

pub keep_scaled-requires-clause-high : goal.keep_scaled-requires-clause-high
keep_scaled-requires-clause-high g c = subst (λ (z : ℤ). nat_abs z ≤ 2 ^ 56) (sym (value_back c.args.product.hi c.requires.product_high)) (value_small c.args.product.hi c.requires.product_high)

pub returns-in_err-keep_scaled : goal.returns-in_err-keep_scaled
returns-in_err-keep_scaled g c = IfOk-from_err c.from_residual.result _ c.from_residual.ensures.0
