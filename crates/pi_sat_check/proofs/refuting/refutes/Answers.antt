use Rattle.std.proofs.Common.{map, sym, subst, ap, ◌∙◌}
use Rattle.pi_constraints.specs.Constraint.{AreItems}
use Rattle.pi_sat_spec.specs.Domains.{item_domain}
use Rattle.pi_sat_spec.proofs.PlaceLemmas.{places-items}
use Rattle.pi_sat_spec.specs.Places.{HaveNone}
use Rattle.pi_sat_spec.proofs.StepLemmas.{none-left-is}
use Rattle.pi_sat_check.proofs.refuting.refutes.Goals as goal

pub domains_of-requires : goal.domains_of-requires
domains_of-requires c = subst AreItems (sym (c.as_slice.ensures.value ∙ c.in_ok-items.ensures)) (places-items c.args.constraint.now c.requires)

pub returns : goal.returns
returns c =
    let made = c.in_ok-domains.ensures ∙ ap (map (item_domain c.args.present.now)) (c.as_slice.ensures.value ∙ c.in_ok-items.ensures) in
    let both = none-left-is c.args.constraint.now c.args.present.now c.in_ok-domains.domains c.in_ok-left.left made (sym c.has_empty.ensures ∙ c.if-has_empty.false) c.in_ok-left.ensures.count c.in_ok-left.ensures.values in
    (λ t. both.0 (subst HaveNone c.as_slice-2.ensures (c.have_none.ensures.0 t)), λ r. c.have_none.ensures.1 (subst HaveNone (sym c.as_slice-2.ensures) (both.1 r)))
