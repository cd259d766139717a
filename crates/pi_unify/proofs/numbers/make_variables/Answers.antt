use Rattle.std.proofs.Common.{ℕ, sym, subst, add-one, arith}
use Rattle.pi_unify.specs.Copying.{Makes}
use Rattle.pi_unify.proofs.KeepsLemmas.{makes_none, makes_one_more, some_made}
use Rattle.pi_unify.proofs.BindLemmas.{if_err}
use Rattle.pi_unify.proofs.PlaceLemmas.{on_err}
use Rattle.pi_unify.proofs.numbers.make_variables.Goals as goal

pub loop-k-init : goal.loop-k-init
loop-k-init g c = makes_none (g.S.StateStore.seen c.args.s.now)

pub loop-k-preserved : goal.loop-k-preserved
loop-k-preserved g c =
    let v = g.S.StateStore.seen c.args.s.now in
    let x = g.S.StateStore.seen c.new_var.new.self in
    subst (λ (k : ℕ). Makes v x k) (sym (add-one c.loop-k._k)) (makes_one_more v (g.S.StateStore.seen c.loop-k.s) x c.loop-k._k c.loop-k.invariant c.in_ok-new_var.ensures.ok.changes)

pub returns-in_err-new_var-clause-ok : goal.returns-in_err-new_var-clause-ok
returns-in_err-new_var-clause-ok g c = if_err c.from_residual.result _ c.from_residual.ensures.0

pub returns-in_err-new_var-clause-err : goal.returns-in_err-new_var-clause-err
returns-in_err-new_var-clause-err g c = on_err c.from_residual.result _ (some_made (g.S.StateStore.seen c.args.s.now) (g.S.StateStore.seen c.loop-k.s) (g.S.StateStore.seen c.new_var.new.self) c.loop-k._k c.loop-k.invariant c.in_err-new_var.ensures.err)

pub returns-clause-ok : goal.returns-clause-ok
returns-clause-ok g c = subst (λ k. Makes (g.S.StateStore.seen c.args.s.now) (g.S.StateStore.seen c.loop-k.s) k) (omega (arith, c.loop-k-test.false)) c.loop-k.invariant
