use Rattle.pi_unify.proofs.KeepsLemmas.{makes_none, some_made}
use Rattle.pi_unify.proofs.PlaceLemmas.{on_err}
use Rattle.pi_unify.specs.Copying.{MakesSome}
use Rattle.pi_lib.proofs.MadeLists.{makes_next}
use Rattle.pi_lib.proofs.variables.make_variables.Goals as goal

pub loop-k-init : goal.loop-k-init
loop-k-init g c = makes_none (g.S.StateStore.seen c.args.s.now)

pub loop-k-preserved : goal.loop-k-preserved
loop-k-preserved g c =
    makes_next (g.S.StateStore.seen c.args.s.now) (g.S.StateStore.seen c.loop-k.s) (g.S.StateStore.seen c.new_var.new.self) c.loop-k._k c.loop-k.invariant c.in_ok-new_var.ensures.ok.changes

pub returns-in_err-new_var-clause-err : goal.returns-in_err-new_var-clause-err
returns-in_err-new_var-clause-err g c =
    let v = g.S.StateStore.seen c.args.s.now in
    let w = g.S.StateStore.seen c.loop-k.s in
    let x = g.S.StateStore.seen c.new_var.new.self in
    on_err c.from_residual.result (MakesSome v x) (some_made v w x c.loop-k._k c.loop-k.invariant c.in_err-new_var.ensures.err)
