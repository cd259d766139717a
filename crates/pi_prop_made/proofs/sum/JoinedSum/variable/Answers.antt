-- One term is joined to none.
use Rattle.std.specs.Prelude.{pos}
use Rattle.pi_prop_made.specs.Signed.{signed}
use Rattle.pi_prop_made.proofs.TermLemmas.{number_of}
use Rattle.pi_prop_made.proofs.SumLemmas.{variable_step, variable_refused}
use Rattle.pi_prop_made.proofs.sum.JoinedSum.variable.Goals as goal

pub returns-in-Ok : goal.returns-in-Ok
returns-in-Ok c =
    variable_step c.args.variable c.new-terms.result c.join.new.self (signed c.new.result.negated c.new.result.value) c.step.result c.new-terms.ensures (number_of c.new.result (pos 1) c.new.ensures.sign c.new.ensures.value) c.in-Ok.ensures
    c.step.ensures

pub returns-in-Err : goal.returns-in-Err
returns-in-Err c =
    variable_refused c.args.variable c.new-terms.result c.join.new.self (signed c.new.result.negated c.new.result.value) c.in-Err.stop c.new-terms.ensures (number_of c.new.result (pos 1) c.new.ensures.sign c.new.ensures.value) c.in-Err.ensures
