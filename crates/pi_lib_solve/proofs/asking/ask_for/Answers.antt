use Rattle.pi_constraints.specs.State.{bindings}
use Rattle.pi_settling.specs.Asked.{flat_items}
use Rattle.pi_lib_solve.proofs.AskLemmas.{items-found, items-refused}
use Rattle.pi_lib_solve.proofs.asking.ask_for.Goals as goal

pub returns-in-Ok : goal.returns-in-Ok
returns-in-Ok g c = λ o t a is are.
    let v = g.S.StateStore.seen c.args.s.now in
    items-found v c.args.options o c.in-Ok.items (flat_items (bindings v.now.state) t) are (c.in-Ok.ensures t a is)

pub returns-in-Err : goal.returns-in-Err
returns-in-Err g c = λ o t a is are.
    let v = g.S.StateStore.seen c.args.s.now in
    items-refused v o c.in-Err.stop (flat_items (bindings v.now.state) t) (c.in-Err.ensures t a is)
