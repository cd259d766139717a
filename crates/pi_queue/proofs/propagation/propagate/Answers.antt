use Rattle.std.proofs.Common.{arith, ◌≡◌, ◌∙◌, ap, length}
use Rattle.std.proofs.lemmas.Result.{err_from_is_err_and}
use Rattle.pi_queue.specs.Ends.{numbers_below}
use Rattle.pi_queue.proofs.WaitingLemmas.{below-next}
use Rattle.pi_queue.proofs.EndLemmas.{all-mean, from-all, way-from-all, nothing-done, none-counted}
use Rattle.pi_queue.proofs.propagation.propagate.Goals as goal

pub loop-i-init : goal.loop-i-init
unfolding numbers_below
loop-i-init g c = c.new-waiting.ensures

pub loop-i-preserved : goal.loop-i-preserved
loop-i-preserved g c = below-next c.loop-i.i c.loop-i.waiting c.add.new.self c.loop-i.invariant c.in_ok-add.ensures.new

pub returns-in_err-add-clause-ends : goal.returns-in_err-add-clause-ends
returns-in_err-add-clause-ends g c = λ is may. let p = err_from_is_err_and c.from_residual.result c.from_residual.ensures.1 in rw (p.1, p.2) tt

pub returns-in_err-add-clause-bounded : goal.returns-in_err-add-clause-bounded
returns-in_err-add-clause-bounded g c = λ is may. nothing-done _ _

pub returns-clause-ends : goal.returns-clause-ends
returns-clause-ends g c =
    let many : c.loop-i.i ≡ length (g.S.StateStore.seen c.args.s.now).now.state.constraints = omega (arith, c.loop-i-test.false, c.loop-i.auto.i-end, c.constraints-i-end.ensures) in
    from-all (g.S.StateStore.seen c.args.s.now).now.state c.loop-i.waiting c.args.limit c.args.work.now c.run_all.new.work (g.S.StateStore.seen c.run_all.new.s).now.state c.run_all.result (c.loop-i.invariant ∙ ap numbers_below many) c.run_all.ensures.ends

pub returns-clause-domains : goal.returns-clause-domains
returns-clause-domains g c =
    let many : c.loop-i.i ≡ length (g.S.StateStore.seen c.args.s.now).now.state.constraints = omega (arith, c.loop-i-test.false, c.loop-i.auto.i-end, c.constraints-i-end.ensures) in
    all-mean (g.S.StateStore.seen c.args.s.now).now.state c.args.limit c.args.work.now c.run_all.new.work (g.S.StateStore.seen c.run_all.new.s).now.state c.run_all.result
    (from-all (g.S.StateStore.seen c.args.s.now).now.state c.loop-i.waiting c.args.limit c.args.work.now c.run_all.new.work (g.S.StateStore.seen c.run_all.new.s).now.state c.run_all.result (c.loop-i.invariant ∙ ap numbers_below many) c.run_all.ensures.ends)

pub returns-clause-bounded : goal.returns-clause-bounded
returns-clause-bounded g c =
    let many : c.loop-i.i ≡ length (g.S.StateStore.seen c.args.s.now).now.state.constraints = omega (arith, c.loop-i-test.false, c.loop-i.auto.i-end, c.constraints-i-end.ensures) in
    way-from-all (g.S.StateStore.seen c.args.s.now).now.state c.loop-i.waiting c.args.work.now c.run_all.new.work (g.S.StateStore.seen c.run_all.new.s).now.state (c.loop-i.invariant ∙ ap numbers_below many) c.run_all.ensures.under_way

pub returns-in_err-add-clause-within : goal.returns-in_err-add-clause-within
returns-in_err-add-clause-within g c = none-counted c.args.limit c.args.work.now
