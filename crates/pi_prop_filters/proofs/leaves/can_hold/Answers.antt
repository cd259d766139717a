use Rattle.std.proofs.Common.{ℤ, IsTrue, ◌↔◌, pos, refl, subst, sym, ◌∙◌}
use Rattle.std.specs.Int.{w128}
use Rattle.std.proofs.lemmas.Bool.{false≢true}
use Rattle.std.proofs.lemmas.Int.{to_z-of_z}
use Rattle.pi_constraints.specs.Constraint.{IsSumWithinLimits}
use Rattle.pi_prop_spec.specs.Reified.{LeavesValues, of_terms}
use Rattle.pi_prop_spec.specs.Sums.{SumKeeps}
use Rattle.pi_prop_filters.proofs.ReifiedLemmas.{none_can_be, no_value_can_be, some_can_be}
use Rattle.pi_prop_filters.proofs.leaves.can_hold.Goals as goal

pub returns-then-not-have_values : goal.returns-then-not-have_values
returns-then-not-have_values g c =
    let ds = g.P.Places.domains c.args.places.now in
    none_can_be (SumKeeps c.args.rel c.args.terms.now c.args.constant (of_terms ds)) ds (pos 1) _ refl (λ h. false≢true (sym c.if-not-have_values.true ∙ c.have_values.ensures.1 h))

pub returns : goal.returns
returns g c =
    let ds = g.P.Places.domains c.args.places.now in
    some_can_be (SumKeeps c.args.rel c.args.terms.now c.args.constant (of_terms ds)) ds (pos 1) _ (sym c.has.ensures ∙ c.if-not-has.false)
    (subst (λ (z : ℤ). IsTrue c.leaves_sum.result ↔ LeavesValues (SumKeeps c.args.rel c.args.terms.now z (of_terms ds)) (of_terms ds)) (to_z-of_z w128 c.args.constant c.ranges.constant) c.leaves_sum.ensures)

pub returns-then-not-has : goal.returns-then-not-has
returns-then-not-has g c =
    let ds = g.P.Places.domains c.args.places.now in
    no_value_can_be (SumKeeps c.args.rel c.args.terms.now c.args.constant (of_terms ds)) ds (pos 1) _ c.has.result refl c.if-not-has.true c.has.ensures

pub leaves_sum-requires-clause-count : goal.leaves_sum-requires-clause-count
leaves_sum-requires-clause-count g c = c.requires.count

pub leaves_sum-requires-clause-limits : goal.leaves_sum-requires-clause-limits
leaves_sum-requires-clause-limits g c = subst (λ (z : ℤ). IsSumWithinLimits c.args.terms.now z) (sym (to_z-of_z w128 c.args.constant c.ranges.constant)) c.requires.limits

pub leaves_sum-requires-clause-values : goal.leaves_sum-requires-clause-values
leaves_sum-requires-clause-values g c = c.have_values.ensures.0 c.if-not-have_values.false
