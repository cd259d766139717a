-- The terms that are made have the coefficients that are wanted.
use Rattle.std.proofs.lemmas.Result.{err_from_is_err_and}
use Rattle.pi_prop_made.specs.Changes.{factor_of}
use Rattle.pi_prop_made.proofs.JudgedLemmas.{added_made, added_refused}
use Rattle.pi_prop_made.proofs.terms.Terms.with_all.Goals as goal

pub returns : goal.returns
returns c = added_made (factor_of c.args.negated) c.args.self c.args.other.now c.add_all.new.self c.in_ok-add_all.ensures

pub returns-in_err-add_all : goal.returns-in_err-add_all
returns-in_err-add_all c =
    let p = err_from_is_err_and c.from_residual.result c.from_residual.ensures.1 in
    rw (p.1, p.2) (added_refused (factor_of c.args.negated) c.args.self c.args.other.now c.add_all.new.self c.in_err-add_all.field-0.0 c.in_err-add_all.ensures)
