use Rattle.std.proofs.Common.{sym}
use Rattle.std.proofs.lemmas.List.{append-nil}
use Rattle.std.proofs.lemmas.Result.{IfOk-from_err}
use Rattle.pi_lib_builtin.specs.Resolved.{rows_shown}
use Rattle.pi_lib_builtin.proofs.NamesLemmas.{row-pushed, rows-pushed}
use Rattle.pi_lib_builtin.proofs.lookup.push_names.Goals as goal

pub loop-row-init : goal.loop-row-init
loop-row-init g c = sym (append-nil (rows_shown c.args.names.now.items))

pub returns-in_err-push : goal.returns-in_err-push
returns-in_err-push g c = IfOk-from_err c.from_residual.result _ c.from_residual.ensures.0

pub loop-row-preserved : goal.loop-row-preserved
loop-row-preserved g c =
    row-pushed c.args.names.now.items c.loop-row.names.items c.push.new.self.items c.args.rows.now c.loop-row.row-index c.args.arity c.row-item.result c.loop-row-test.true c.row-item.is c.in_ok-push.ensures.items c.loop-row.invariant

pub returns : goal.returns
returns g c = rows-pushed c.args.names.now.items c.loop-row.names.items c.args.rows.now c.loop-row.row-index c.args.arity c.loop-row-test.false c.loop-row.invariant
