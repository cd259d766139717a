use Rattle.std.proofs.lemmas.Result.{IfOk-from_err}
use Rattle.pi_lib_builtin.proofs.ResultLemmas.{stays-none}
use Rattle.pi_lib_builtin.proofs.naming.put_name.Goals as goal

pub returns-in_err-name-clause-stays : goal.returns-in_err-name-clause-stays
returns-in_err-name-clause-stays g c = stays-none (g.S.StateStore.seen c.args.s.now)

pub returns-in_err-name-clause-ok : goal.returns-in_err-name-clause-ok
returns-in_err-name-clause-ok g c = IfOk-from_err c.from_residual.result _ c.from_residual.ensures.0

pub returns-in_err-put_atom-clause-stays : goal.returns-in_err-put_atom-clause-stays
returns-in_err-put_atom-clause-stays g c = c.in_err-put_atom.ensures.err

pub returns-in_err-put_atom-clause-ok : goal.returns-in_err-put_atom-clause-ok
returns-in_err-put_atom-clause-ok g c = IfOk-from_err c.from_residual-in_err-put_atom.result _ c.from_residual-in_err-put_atom.ensures.0

pub returns-clause-stays : goal.returns-clause-stays
returns-clause-stays g c = c.in_ok-put_atom.ensures.ok.changes
