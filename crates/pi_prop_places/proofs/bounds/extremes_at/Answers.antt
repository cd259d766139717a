use Rattle.std.proofs.Common.{ℤ, ◌≡◌, ◌≤◌, ◌^◌, ◌∙◌, ◌*ℤ◌, neg_ℤ, nat_abs, subst, sym, to_z, of_z}
use Rattle.std.specs.Int.{int_min, w128}
use Rattle.std.proofs.lemmas.Int.{to_z-of_z}
use Rattle.pi_constraints.specs.Domain.{IsWithinBounds}
use Rattle.pi_prop_spec.specs.Ends.{least_of, greatest_of}
use Rattle.pi_prop_spec.specs.Places.{domain_at}
use Rattle.pi_prop_places.proofs.WideLemmas.{widened}
use Rattle.pi_prop_places.proofs.bounds.extremes_at.Goals as goal

pub extremes_of-requires-clause-coefficient : goal.extremes_of-requires-clause-coefficient
extremes_of-requires-clause-coefficient g c = subst (λ (z : ℤ). nat_abs z ≤ 2 ^ 40) (sym (to_z-of_z w128 c.args.coefficient c.ranges.coefficient)) c.requires

pub extremes_of-requires-clause-low : goal.extremes_of-requires-clause-low
extremes_of-requires-clause-low g c = subst IsWithinBounds (sym (widened c.least.result c.wide-lo.result c.least.ensures.within c.wide-lo.ensures)) c.least.ensures.within

pub extremes_of-requires-clause-high : goal.extremes_of-requires-clause-high
extremes_of-requires-clause-high g c = subst IsWithinBounds (sym (widened c.greatest.result c.wide-hi.result c.greatest.ensures.within c.wide-hi.ensures)) c.greatest.ensures.within

pub returns-clause-least : goal.returns-clause-least
returns-clause-least g c =
    let d = domain_at (g.P.Places.domains c.args.places.now) c.args.k in
    let lo : to_z w128 (of_z w128 c.wide-lo.result) ≡ least_of d = widened c.least.result c.wide-lo.result c.least.ensures.within c.wide-lo.ensures ∙ c.least.ensures.is in
    let hi : to_z w128 (of_z w128 c.wide-hi.result) ≡ greatest_of d = widened c.greatest.result c.wide-hi.result c.greatest.ensures.within c.wide-hi.ensures ∙ c.greatest.ensures.is in
    let co : to_z w128 (of_z w128 c.args.coefficient) ≡ c.args.coefficient = to_z-of_z w128 c.args.coefficient c.ranges.coefficient in
    c.extremes_of.ensures.least ∙ (λ i. int_min (co i *ℤ lo i) (co i *ℤ hi i))

pub returns-clause-opposite : goal.returns-clause-opposite
returns-clause-opposite g c =
    let d = domain_at (g.P.Places.domains c.args.places.now) c.args.k in
    let lo : to_z w128 (of_z w128 c.wide-lo.result) ≡ least_of d = widened c.least.result c.wide-lo.result c.least.ensures.within c.wide-lo.ensures ∙ c.least.ensures.is in
    let hi : to_z w128 (of_z w128 c.wide-hi.result) ≡ greatest_of d = widened c.greatest.result c.wide-hi.result c.greatest.ensures.within c.wide-hi.ensures ∙ c.greatest.ensures.is in
    let co : to_z w128 (of_z w128 c.args.coefficient) ≡ c.args.coefficient = to_z-of_z w128 c.args.coefficient c.ranges.coefficient in
    c.extremes_of.ensures.opposite ∙ (λ i. int_min (neg_ℤ (co i) *ℤ lo i) (neg_ℤ (co i) *ℤ hi i))
