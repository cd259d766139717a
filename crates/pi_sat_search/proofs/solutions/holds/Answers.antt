use Rattle.std.proofs.Common.{map, sym, subst, ap, ◌∙◌}
use Rattle.std.specs.Prelude.{All}
use Rattle.pi_constraints.specs.Domain.{IsWithinBounds}
use Rattle.pi_prop_spec.specs.Solutions.{value_of}
use Rattle.pi_sat_spec.specs.Domains.{only}
use Rattle.pi_sat_spec.specs.Places.{HaveNone}
use Rattle.pi_sat_search.specs.Assigned.{assigned}
use Rattle.pi_sat_search.proofs.ValueLemmas.{holds-so, not-both}
use Rattle.pi_sat_search.proofs.solutions.holds.Goals as goal

pub returns : goal.returns
returns c =
    let a = assigned c.args.values.now in
    let are = c.in_ok-numbers.ensures ∙ ap (map (value_of a)) (c.as_slice.ensures.value ∙ c.in_ok-items.ensures) in
    let bounds = subst (All IsWithinBounds) c.as_slice-2.ensures.value (c.are_within_bounds.ensures.0 c.if-not-are_within_bounds.false) in
    let made = c.in_ok-domains.ensures ∙ ap (map only) c.as_slice-3.ensures.value in
    λ t. holds-so c.args.constraint.now a c.in_ok-numbers.numbers.items c.in_ok-domains.domains c.in_ok-left.left c.requires are bounds made c.in_ok-left.ensures.count c.in_ok-left.ensures.values
    (λ h. not-both c.have_none.result t (c.have_none.ensures.1 (subst HaveNone (sym c.as_slice-4.ensures) h)))
