use Rattle.std.proofs.Common.{List, map, sym, subst, ap, ◌∙◌}
use Rattle.pi_constraints.specs.Constraint.{AreItems}
use Rattle.pi_constraints.specs.declared.domain.Span.{Span}
use Rattle.pi_prop_filters.specs.Left.{AreLeft}
use Rattle.pi_sat_spec.specs.Domains.{item_domain}
use Rattle.pi_sat_spec.proofs.PlaceLemmas.{places-items}
use Rattle.pi_sat_search.proofs.filtered.left_at_places.Goals as goal

pub domains_of-requires : goal.domains_of-requires
domains_of-requires c = subst AreItems (sym (c.as_slice.ensures.value ∙ c.in_ok-items.ensures)) (places-items c.args.constraint.now c.requires)

pub returns : goal.returns
returns c =
    let made = c.in_ok-domains.ensures ∙ ap (map (item_domain c.args.present.now)) (c.as_slice.ensures.value ∙ c.in_ok-items.ensures) in
    subst (λ (ds : List (List Span)). AreLeft c.args.constraint.now ds c.in_ok-left.left) made c.in_ok-left.ensures
