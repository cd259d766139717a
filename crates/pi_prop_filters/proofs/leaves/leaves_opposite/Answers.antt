use Rattle.std.proofs.Common.{ℤ, sym, subst}
use Rattle.std.specs.Int.{w128}
use Rattle.std.proofs.lemmas.Int.{to_z-of_z}
use Rattle.pi_constraints.specs.Constraint.{IsSumWithinLimits}
use Rattle.pi_constraints.specs.declared.constraint.Rel.{Rel}
use Rattle.pi_prop_spec.specs.Reified.{of_terms}
use Rattle.pi_prop_spec.specs.Sums.{OppositeKeeps}
use Rattle.pi_prop_filters.proofs.ReifiedLemmas.{same_rule}
use Rattle.pi_prop_filters.proofs.leaves.leaves_opposite.Goals as goal

pub returns-in-Equal : goal.returns-in-Equal
returns-in-Equal g c =
    let ds = of_terms (g.P.Places.domains c.args.places.now) in
    same_rule _ (λ (q : Rel) (z : ℤ). OppositeKeeps q c.args.terms.now z ds) ds c.args.rel Rel.Equal c.args.constant _ c.in-Equal.is (to_z-of_z w128 c.args.constant c.ranges.constant) c.leaves_unequal.ensures

pub returns-in-Unequal : goal.returns-in-Unequal
returns-in-Unequal g c =
    let ds = of_terms (g.P.Places.domains c.args.places.now) in
    same_rule _ (λ (q : Rel) (z : ℤ). OppositeKeeps q c.args.terms.now z ds) ds c.args.rel Rel.Unequal c.args.constant _ c.in-Unequal.is (to_z-of_z w128 c.args.constant c.ranges.constant) c.leaves_equal.ensures

pub returns-in-AtMost : goal.returns-in-AtMost
returns-in-AtMost g c =
    let ds = of_terms (g.P.Places.domains c.args.places.now) in
    same_rule _ (λ (q : Rel) (z : ℤ). OppositeKeeps q c.args.terms.now z ds) ds c.args.rel Rel.AtMost c.args.constant _ c.in-AtMost.is (to_z-of_z w128 c.args.constant c.ranges.constant) c.leaves_above_zero.ensures

pub leaves_unequal-requires-clause-limits : goal.leaves_unequal-requires-clause-limits
leaves_unequal-requires-clause-limits g c = subst (λ (z : ℤ). IsSumWithinLimits c.args.terms.now z) (sym (to_z-of_z w128 c.args.constant c.ranges.constant)) c.requires.limits

pub leaves_equal-requires-clause-limits : goal.leaves_equal-requires-clause-limits
leaves_equal-requires-clause-limits g c = subst (λ (z : ℤ). IsSumWithinLimits c.args.terms.now z) (sym (to_z-of_z w128 c.args.constant c.ranges.constant)) c.requires.limits

pub leaves_above_zero-requires-clause-limits : goal.leaves_above_zero-requires-clause-limits
leaves_above_zero-requires-clause-limits g c = subst (λ (z : ℤ). IsSumWithinLimits c.args.terms.now z) (sym (to_z-of_z w128 c.args.constant c.ranges.constant)) c.requires.limits
