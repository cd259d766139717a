use Rattle.std.proofs.Common.{sym, subst, refl, ◌∙◌}
use Rattle.pi_sat_spec.specs.Domains.{at_places}
use Rattle.pi_sat_spec.specs.Places.{HaveNone}
use Rattle.pi_sat_spec.proofs.StepLemmas.{none-left-is}
use Rattle.pi_sat_search.proofs.filtered.refutes.Goals as goal

pub returns : goal.returns
returns c =
    let both = none-left-is c.args.constraint.now c.args.present.now (at_places c.args.present.now c.args.constraint.now) c.in_ok-left.left refl (sym c.has_empty.ensures ∙ c.if-has_empty.false) c.in_ok-left.ensures.count c.in_ok-left.ensures.values in
    (λ t. both.0 (subst HaveNone c.as_slice.ensures (c.have_none.ensures.0 t)), λ r. c.have_none.ensures.1 (subst HaveNone (sym c.as_slice.ensures) (both.1 r)))
