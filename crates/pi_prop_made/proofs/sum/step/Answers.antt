-- The terms and the constant are those of the sum that is wanted, or one of them is too wide.
use Rattle.std.specs.Prelude.{◌≡◌}
use Rattle.std.specs.Int.{w128}
use Rattle.std.proofs.Common.{rules, ◌∙◌, sym, to_z, of_z}
use Rattle.std.proofs.lemmas.Result.{err_from_is_err_and}
use Rattle.pi_prop_made.proofs.SumLemmas.{no_constant_step, no_terms_step, made_step, refused_step}
use Rattle.pi_prop_made.proofs.sum.step.Goals as goal

pub returns-in_default : goal.returns-in_default
returns-in_default c = λ w s. no_constant_step w c.args.terms c.args.constant c.in_default.is s

pub returns-in_err-terms : goal.returns-in_err-terms
returns-in_err-terms c =
    let p = err_from_is_err_and c.from_residual.result c.from_residual.ensures.1 in
    rw (p.1, p.2) (no_terms_step c.args.terms c.in_err-terms.field-0.0 c.args.constant c.in_err-terms.was)

pub returns-then-fit : goal.returns-then-fit
returns-then-fit c =
    let bits : to_z w128 (of_z w128 c.in-Some.constant) ≡ c.in-Some.constant = search rules in
    λ w s. made_step w c.args.terms c.in_ok-terms.terms c.args.constant c.in-Some.constant (to_z w128 (of_z w128 c.in-Some.constant)) c.in_ok-terms.was c.in-Some.is bits c.fit.ensures.ascend (sym c.fit.ensures.fit ∙ c.if-fit.true) s

pub returns-else-fit : goal.returns-else-fit
returns-else-fit c = λ w s. refused_step w c.args.terms c.in_ok-terms.terms c.args.constant c.in_ok-terms.was c.fit.ensures.ascend (sym c.fit.ensures.fit ∙ c.if-fit.false) s
