use Rattle.std.proofs.Common.{List, refl, subst, ◌∙◌}
use Rattle.std.proofs.lemmas.Option.{slice_get_read}
use Rattle.pi_constraints.specs.declared.var_domain.VarDomain.{VarDomain}
use Rattle.pi_sat_spec.specs.Logs.{Refutes}
use Rattle.pi_sat_search.proofs.entries.follows.Goals as goal

pub returns-in_ok-refuted-in-Some : goal.returns-in_ok-refuted-in-Some
returns-in_ok-refuted-in-Some c = λ t. (
  c.in-Some.constraint.now,
  slice_get_read c.args.constraints.now _ c.args.number c.in-Some.constraint.now refl c.in-Some.ensures.lookup.3.0 c.in-Some.ensures.lookup.1,
  subst (λ (ys : List VarDomain). Refutes c.in-Some.constraint.now ys) (c.as_slice.ensures.value ∙ c.in_ok-present-in-Some.ensures) (c.in_ok-refuted-in-Some.ensures.0 t),
)
