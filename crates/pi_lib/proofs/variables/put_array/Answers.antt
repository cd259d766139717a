use Rattle.std.proofs.lemmas.Result.{IfOk-from_err}
use Rattle.pi_unify.proofs.KeepsLemmas.{some_made}
use Rattle.pi_lib.proofs.MadeLists.{array_made}
use Rattle.pi_lib.proofs.variables.put_array.Goals as goal

pub returns-in_err-variables-clause-makes : goal.returns-in_err-variables-clause-makes
returns-in_err-variables-clause-makes g c = c.in_err-variables.ensures.err

pub returns-in_err-variables-clause-ok : goal.returns-in_err-variables-clause-ok
returns-in_err-variables-clause-ok g c = IfOk-from_err c.from_residual.result _ c.from_residual.ensures.0

pub returns-in_err-made-clause-makes : goal.returns-in_err-made-clause-makes
returns-in_err-made-clause-makes g c =
    some_made (g.S.StateStore.seen c.args.s.now) (g.S.StateStore.seen c.new_variables.new.s) (g.S.StateStore.seen c.put_comp.new.self) c.args.count c.in_ok-variables.ensures.ok.0 c.in_err-made.ensures.stays

pub returns-in_err-made-clause-ok : goal.returns-in_err-made-clause-ok
returns-in_err-made-clause-ok g c = IfOk-from_err c.from_residual-in_err-made.result _ c.from_residual-in_err-made.ensures.0

pub returns-clause-makes : goal.returns-clause-makes
returns-clause-makes g c =
    some_made (g.S.StateStore.seen c.args.s.now) (g.S.StateStore.seen c.new_variables.new.s) (g.S.StateStore.seen c.put_comp.new.self) c.args.count c.in_ok-variables.ensures.ok.0 c.in_ok-made.ensures.stays

pub returns-clause-ok : goal.returns-clause-ok
returns-clause-ok g c =
    array_made (g.S.StateStore.seen c.args.s.now) (g.S.StateStore.seen c.new_variables.new.s) (g.S.StateStore.seen c.put_comp.new.self) c.in_ok-variables.variables.items c.deref.result.now c.args.count c.in_ok-made.made c.deref.ensures.value c.in_ok-variables.ensures.ok c.in_ok-made.ensures.stays c.in_ok-made.ensures.ok
