use Rattle.std.proofs.Common.{ℤ, sym, subst}
use Rattle.std.specs.Int.{w128}
use Rattle.std.proofs.lemmas.Int.{to_z-of_z}
use Rattle.std.proofs.lemmas.Result.{IfOk-from_err}
use Rattle.pi_constraints.specs.Constraint.{IsSumWithinLimits}
use Rattle.pi_prop_spec.specs.Reified.{ReifiedKeeps}
use Rattle.pi_prop_places.specs.Changes.{AreFiltered}
use Rattle.pi_prop_filters.proofs.ReifiedLemmas.{reified_filtered}
use Rattle.pi_prop_filters.proofs.reified.filter_reified.Goals as goal

pub returns : goal.returns
returns g c =
    let ds = g.P.Places.domains c.args.places.now in
    let fs = g.P.Places.domains c.keep_truth.new.places in
    subst (λ (z : ℤ). AreFiltered (ReifiedKeeps c.args.rel c.args.terms.now z ds) ds fs) (to_z-of_z w128 c.args.constant c.ranges.constant)
    (reified_filtered c.args.rel c.args.terms.now _ ds _ fs _ _ c.can_hold-holds.ensures c.can_fail-fails.ensures c.in_ok-filter_terms.ensures c.in_ok-keep_truth.ensures)

pub can_hold-holds-requires-clause-limits : goal.can_hold-holds-requires-clause-limits
can_hold-holds-requires-clause-limits g c = subst (λ (z : ℤ). IsSumWithinLimits c.args.terms.now z) (sym (to_z-of_z w128 c.args.constant c.ranges.constant)) c.requires.limits

pub can_fail-fails-requires-clause-limits : goal.can_fail-fails-requires-clause-limits
can_fail-fails-requires-clause-limits g c = subst (λ (z : ℤ). IsSumWithinLimits c.args.terms.now z) (sym (to_z-of_z w128 c.args.constant c.ranges.constant)) c.requires.limits

pub filter_terms-requires-clause-limits : goal.filter_terms-requires-clause-limits
filter_terms-requires-clause-limits g c = subst (λ (z : ℤ). IsSumWithinLimits c.args.terms.now z) (sym (to_z-of_z w128 c.args.constant c.ranges.constant)) c.requires.limits

pub returns-in_err-filter_terms : goal.returns-in_err-filter_terms
returns-in_err-filter_terms g c = IfOk-from_err c.from_residual.result _ c.from_residual.ensures.0

pub returns-in_err-keep_truth : goal.returns-in_err-keep_truth
returns-in_err-keep_truth g c = IfOk-from_err c.from_residual-in_err-keep_truth.result _ c.from_residual-in_err-keep_truth.ensures.0
