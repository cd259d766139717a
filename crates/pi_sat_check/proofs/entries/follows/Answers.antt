use Rattle.std.proofs.lemmas.Option.{slice_get_read}
use Rattle.std.proofs.Common.{List, ◌↔◌, refl, subst, ◌∙◌}
use Rattle.std.specs.Prelude.{IsTrue}
use Rattle.pi_constraints.specs.declared.var_domain.VarDomain.{VarDomain}
use Rattle.pi_sat_spec.specs.Domains.{refuted}
use Rattle.pi_sat_spec.specs.Logs.{Refutes}
use Rattle.pi_sat_spec.proofs.StepLemmas.{found-one}
use Rattle.pi_sat_check.proofs.entries.follows.Goals as goal

pub returns-in_ok-refuted-in-Some : goal.returns-in_ok-refuted-in-Some
returns-in_ok-refuted-in-Some c =
    found-one c.args.constraints.now c.args.number c.in-Some.constraint.now c.in_ok-refuted-in-Some.refuted (λ b. Refutes b (refuted c.args.domains.now c.args.lemma.now)) (slice_get_read c.args.constraints.now _ c.args.number c.in-Some.constraint.now refl c.in-Some.ensures.lookup.3.0 c.in-Some.ensures.lookup.1)
    (subst (λ (ys : List VarDomain). IsTrue c.in_ok-refuted-in-Some.refuted ↔ Refutes c.in-Some.constraint.now ys) (c.as_slice.ensures.value ∙ c.in_ok-present-in-Some.ensures) c.in_ok-refuted-in-Some.ensures)
