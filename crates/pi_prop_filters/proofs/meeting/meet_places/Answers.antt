use Rattle.std.proofs.Common.{◌∙◌, ◌∷◌, ◌++◌, [], ℤ, ℕ, List, length, ap, refl, sym, subst}
use Rattle.pi_constraints.specs.declared.constraint.Constraint.{Constraint}
use Rattle.pi_constraints.specs.declared.constraint.Item.{Item}
use Rattle.pi_constraints.specs.Constraint.{IsSum, IsWithinLimits}
use Rattle.pi_prop_spec.specs.Places.{places_of, sum_places}
use Rattle.pi_prop_filters.proofs.LeftLemmas.{linear_met, kind_met}
use Rattle.pi_prop_filters.proofs.meeting.meet_places.Goals as goal

pub returns-in-Linear : goal.returns-in-Linear
returns-in-Linear g c = linear_met c.args.constraint.now _ _ _ (g.P.Places.domains c.args.places.now) c.in-Linear.is c.requires.limits c.requires.count

pub meet_items-requires : goal.meet_items-requires
meet_items-requires g c = c.requires.count ∙ ap (λ (x : Constraint). length (places_of x)) c.in-Product.is

pub meet_items-requires-in-Absolute : goal.meet_items-requires-in-Absolute
meet_items-requires-in-Absolute g c = c.requires.count ∙ ap (λ (x : Constraint). length (places_of x)) c.in-Absolute.is

pub meet_items-requires-in-Different : goal.meet_items-requires-in-Different
meet_items-requires-in-Different g c = c.requires.count ∙ (ap (λ (x : Constraint). length (places_of x)) c.in-Different.is ∙ ap (λ (is : List Item). length is) (sym c.as_slice.ensures))

pub meet_element-requires : goal.meet_element-requires
meet_element-requires g c =
    c.requires.count ∙ (ap (λ (x : Constraint). length (places_of x)) c.in-Element.is ∙ ap (λ (is : List Item). length (c.in-Element.index ∷ (is ++ c.in-Element.value ∷ []))) (sym c.as_slice-in-Element.ensures))

pub meet_reified-requires-clause-count : goal.meet_reified-requires-clause-count
meet_reified-requires-clause-count g c =
    c.requires.count ∙ (ap (λ (x : Constraint). length (places_of x)) c.in-Reified.is ∙ ap (λ (ts : List (ℤ × ℕ)). length (c.in-Reified.truth ∷ sum_places ts)) (sym c.as_slice-in-Reified.ensures))

pub meet_reified-requires-clause-sum : goal.meet_reified-requires-clause-sum
meet_reified-requires-clause-sum g c = subst (IsSum 0) (sym c.as_slice-in-Reified.ensures) ((subst IsWithinLimits c.in-Reified.is c.requires.limits).1).2

pub meet_items-requires-in-Distinct : goal.meet_items-requires-in-Distinct
meet_items-requires-in-Distinct g c = c.requires.count ∙ (ap (λ (x : Constraint). length (places_of x)) c.in-Distinct.is ∙ ap (λ (is : List Item). length is) (sym c.as_slice-in-Distinct.ensures))

pub returns-in-Product : goal.returns-in-Product
returns-in-Product g c = kind_met c.args.constraint.now _ _ c.meet_items.result (g.P.Places.domains c.args.places.now) _ c.in-Product.is refl c.meet_items.ensures

pub returns-in-Absolute : goal.returns-in-Absolute
returns-in-Absolute g c = kind_met c.args.constraint.now _ _ c.meet_items-in-Absolute.result (g.P.Places.domains c.args.places.now) _ c.in-Absolute.is refl c.meet_items-in-Absolute.ensures

pub returns-in-Different : goal.returns-in-Different
returns-in-Different g c = kind_met c.args.constraint.now _ _ c.meet_items-in-Different.result (g.P.Places.domains c.args.places.now) _ c.in-Different.is c.as_slice.ensures c.meet_items-in-Different.ensures

pub returns-in-Element : goal.returns-in-Element
returns-in-Element g c =
    kind_met c.args.constraint.now _ _ c.meet_element.result (g.P.Places.domains c.args.places.now) _ c.in-Element.is (ap (λ (is : List Item). c.in-Element.index ∷ (is ++ c.in-Element.value ∷ [])) c.as_slice-in-Element.ensures) c.meet_element.ensures

pub returns-in-Reified : goal.returns-in-Reified
returns-in-Reified g c =
    kind_met c.args.constraint.now _ _ c.meet_reified.result (g.P.Places.domains c.args.places.now) _ c.in-Reified.is (ap (λ (ts : List (ℤ × ℕ)). c.in-Reified.truth ∷ sum_places ts) c.as_slice-in-Reified.ensures) c.meet_reified.ensures

pub returns-in-Distinct : goal.returns-in-Distinct
returns-in-Distinct g c = kind_met c.args.constraint.now _ _ c.meet_items-in-Distinct.result (g.P.Places.domains c.args.places.now) _ c.in-Distinct.is c.as_slice-in-Distinct.ensures c.meet_items-in-Distinct.ensures
