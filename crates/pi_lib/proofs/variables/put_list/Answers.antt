use Rattle.std.proofs.lemmas.Result.{IfOk-from_err}
use Rattle.pi_unify.specs.Copying.{with_variables}
use Rattle.pi_unify.proofs.KeepsLemmas.{stays_then, some_made}
use Rattle.pi_lib.proofs.MadeLists.{newest_listed}
use Rattle.pi_lib.proofs.variables.put_list.Goals as goal

pub returns-in_err-make_variables-clause-makes : goal.returns-in_err-make_variables-clause-makes
returns-in_err-make_variables-clause-makes g c = c.in_err-make_variables.ensures.err

pub returns-in_err-make_variables-clause-ok : goal.returns-in_err-make_variables-clause-ok
returns-in_err-make_variables-clause-ok g c = IfOk-from_err c.from_residual.result _ c.from_residual.ensures.0

pub returns-in_err-made-clause-makes : goal.returns-in_err-made-clause-makes
returns-in_err-made-clause-makes g c =
    some_made (g.S.StateStore.seen c.args.s.now) (g.S.StateStore.seen c.make_variables.new.s) (g.S.StateStore.seen c.list_newest.new.s) c.args.count c.in_ok-make_variables.ensures.ok c.in_err-made.ensures.stays

pub returns-in_err-made-clause-ok : goal.returns-in_err-made-clause-ok
returns-in_err-made-clause-ok g c = IfOk-from_err c.from_residual-in_err-made.result _ c.from_residual-in_err-made.ensures.0

pub returns-clause-makes : goal.returns-clause-makes
returns-clause-makes g c =
    some_made (g.S.StateStore.seen c.args.s.now) (g.S.StateStore.seen c.make_variables.new.s) (g.S.StateStore.seen c.list_newest.new.s) c.args.count c.in_ok-make_variables.ensures.ok c.in_ok-made.ensures.stays

pub returns-clause-ok : goal.returns-clause-ok
returns-clause-ok g c =
    let v = g.S.StateStore.seen c.args.s.now in
    let w = g.S.StateStore.seen c.make_variables.new.s in
    let x = g.S.StateStore.seen c.list_newest.new.s in
    let makes = c.in_ok-make_variables.ensures.ok in
    let stays = c.in_ok-made.ensures.stays in
    record {
      changes = stays_then v w x (with_variables c.args.count v.now.state) makes stays;
      term = newest_listed v w x c.in_ok-made.made c.args.count makes stays c.in_ok-made.ensures.ok;
    }
