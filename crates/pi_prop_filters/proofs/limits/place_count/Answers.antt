use Rattle.std.proofs.Common.{arith, ◌∙◌, ap, sym, refl, length}
use Rattle.pi_constraints.specs.declared.constraint.Constraint.{Constraint}
use Rattle.pi_prop_spec.specs.Places.{places_of}
use Rattle.pi_prop_filters.proofs.LeftLemmas.{length-sum_places, reified_count}
use Rattle.pi_prop_filters.proofs.limits.place_count.Goals as goal

pub returns-in-Linear : goal.returns-in-Linear
returns-in-Linear c = c.len.ensures ∙ sym (ap (λ (x : Constraint). length (places_of x)) c.in-Linear.is ∙ length-sum_places _)

pub returns-in-Reified : goal.returns-in-Reified
returns-in-Reified c =
    let places = reified_count c.args.constraint.now c.in-Reified.truth c.in-Reified.rel c.in-Reified.terms c.in-Reified.constant (length (places_of c.args.constraint.now)) c.in-Reified.is refl in
    omega (arith, places, c.len-in-Reified.ensures)
