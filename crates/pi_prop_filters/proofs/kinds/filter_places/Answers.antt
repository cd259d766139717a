use Rattle.std.proofs.Common.{◌∙◌, ◌+◌, ℤ, ℕ, List, ap, sym, length}
use Rattle.pi_constraints.specs.declared.constraint.Constraint.{Constraint}
use Rattle.pi_prop_spec.specs.Places.{places_of}
use Rattle.pi_prop_filters.proofs.LeftLemmas.{length-sum_places, reified_count, element_count, element_few, linear_limits, reified_limits, kind_filtered, linear_filtered, reified_kept, element_kept}
use Rattle.pi_prop_filters.proofs.kinds.filter_places.Goals as goal

pub filter_linear-requires-clause-count : goal.filter_linear-requires-clause-count
filter_linear-requires-clause-count g c =
    c.requires.count ∙ (ap (λ (x : Constraint). length (places_of x)) c.in-Linear.is ∙ (length-sum_places _ ∙ ap (λ (ts : List (ℤ × ℕ)). length ts) (sym c.as_slice.ensures)))

pub filter_reified-requires-clause-count : goal.filter_reified-requires-clause-count
filter_reified-requires-clause-count g c =
    reified_count c.args.constraint.now _ _ _ _ _ c.in-Reified.is c.requires.count ∙ ap (λ (ts : List (ℤ × ℕ)). 1 + length ts) (sym c.as_slice-in-Reified.ensures)

pub filter_linear-requires-clause-limits : goal.filter_linear-requires-clause-limits
filter_linear-requires-clause-limits g c = linear_limits c.args.constraint.now _ _ _ _ c.in-Linear.is c.as_slice.ensures c.requires.limits

pub filter_reified-requires-clause-limits : goal.filter_reified-requires-clause-limits
filter_reified-requires-clause-limits g c = reified_limits c.args.constraint.now _ _ _ _ _ c.in-Reified.is c.as_slice-in-Reified.ensures c.requires.limits

pub filter_product-requires : goal.filter_product-requires
filter_product-requires g c = c.requires.count ∙ ap (λ (x : Constraint). length (places_of x)) c.in-Product.is

pub filter_absolute-requires : goal.filter_absolute-requires
filter_absolute-requires g c = c.requires.count ∙ ap (λ (x : Constraint). length (places_of x)) c.in-Absolute.is

pub filter_element-requires-clause-places : goal.filter_element-requires-clause-places
filter_element-requires-clause-places g c = element_count c.args.constraint.now _ _ _ _ _ c.in-Element.is c.requires.count c.len.ensures

pub filter_element-requires-clause-few : goal.filter_element-requires-clause-few
filter_element-requires-clause-few g c = element_few c.args.constraint.now _ _ _ _ c.in-Element.is c.requires.limits c.len.ensures

pub returns-in-Linear : goal.returns-in-Linear
returns-in-Linear g c = linear_filtered c.args.constraint.now _ _ _ _ c.filter_linear.result (g.P.Places.domains c.args.places.now) _ c.in-Linear.is c.as_slice.ensures c.requires.limits c.filter_linear.ensures

pub returns-in-Product : goal.returns-in-Product
returns-in-Product g c = kind_filtered c.args.constraint.now _ c.filter_product.result (g.P.Places.domains c.args.places.now) _ c.in-Product.is c.filter_product.ensures

pub returns-in-Absolute : goal.returns-in-Absolute
returns-in-Absolute g c = kind_filtered c.args.constraint.now _ c.filter_absolute.result (g.P.Places.domains c.args.places.now) _ c.in-Absolute.is c.filter_absolute.ensures

pub returns-in-Different : goal.returns-in-Different
returns-in-Different g c = kind_filtered c.args.constraint.now _ c.filter_different.result (g.P.Places.domains c.args.places.now) _ c.in-Different.is c.filter_different.ensures

pub returns-in-Element : goal.returns-in-Element
returns-in-Element g c = element_kept c.args.constraint.now _ _ _ _ c.filter_element.result (g.P.Places.domains c.args.places.now) _ c.in-Element.is c.len.ensures c.filter_element.ensures

pub returns-in-Reified : goal.returns-in-Reified
returns-in-Reified g c = reified_kept c.args.constraint.now _ _ _ _ _ c.filter_reified.result (g.P.Places.domains c.args.places.now) _ c.in-Reified.is c.as_slice-in-Reified.ensures c.requires.limits c.filter_reified.ensures

pub returns-in-Distinct : goal.returns-in-Distinct
returns-in-Distinct g c = kind_filtered c.args.constraint.now _ c.filter_distinct.result (g.P.Places.domains c.args.places.now) _ c.in-Distinct.is c.filter_distinct.ensures
