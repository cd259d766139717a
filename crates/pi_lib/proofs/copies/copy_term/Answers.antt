use Rattle.std.proofs.lemmas.Result.{err_from_is_err_and}
use Rattle.pi_constraints.specs.Value.{value}
use Rattle.pi_constraints.specs.State.{bindings}
use Rattle.pi_lib.proofs.CopyLemmas.{copy_given, copy_refused}
use Rattle.pi_lib.proofs.copies.copy_term.Goals as goal

pub returns-in_err-made-clause-shows : goal.returns-in_err-made-clause-shows
returns-in_err-made-clause-shows g c = λ t a is.
    let v = g.S.StateStore.seen c.args.s.now in
    let w = g.S.StateStore.seen c.copy_term.new.s in
    let p = err_from_is_err_and c.from_residual.result c.from_residual.ensures.1 in
    rw p.1 (copy_refused v w (value (bindings v.now.state) t) c.in_err-made.field-0.0 p.0 p.2 (c.in_err-made.ensures.copies t is a))

pub returns-clause-shows : goal.returns-clause-shows
returns-clause-shows g c = λ t a is.
    let v = g.S.StateStore.seen c.args.s.now in
    let w = g.S.StateStore.seen c.copy_term.new.s in
    copy_given v w (value (bindings v.now.state) t) c.in_ok-made.made (c.in_ok-made.ensures.copies t is a)
