use Rattle.std.proofs.lemmas.Result.{err_from_is_err_and}
use Rattle.pi_queue.proofs.EndLemmas.{ends-mean, from-these, way-from-these, nothing-done, none-counted}
use Rattle.pi_queue.proofs.propagation.propagate_from.Goals as goal

pub returns-clause-ends : goal.returns-clause-ends
returns-clause-ends g c =
    from-these (g.S.StateStore.seen c.args.s.now).now.state c.args.due.now c.as_slice.result.now c.add_all.new.waiting c.args.limit c.args.work.now c.run_all.new.work (g.S.StateStore.seen c.run_all.new.s).now.state c.run_all.result c.as_slice.ensures (λ differ. c.in_ok-add_all.ensures.new differ c.new-waiting.ensures) c.run_all.ensures.ends

pub returns-clause-domains : goal.returns-clause-domains
returns-clause-domains g c =
    ends-mean (g.S.StateStore.seen c.args.s.now).now.state c.args.due.now c.args.limit c.args.work.now c.run_all.new.work (g.S.StateStore.seen c.run_all.new.s).now.state c.run_all.result
    (from-these (g.S.StateStore.seen c.args.s.now).now.state c.args.due.now c.as_slice.result.now c.add_all.new.waiting c.args.limit c.args.work.now c.run_all.new.work (g.S.StateStore.seen c.run_all.new.s).now.state c.run_all.result c.as_slice.ensures (λ differ. c.in_ok-add_all.ensures.new differ c.new-waiting.ensures) c.run_all.ensures.ends)

pub returns-clause-bounded : goal.returns-clause-bounded
returns-clause-bounded g c =
    way-from-these (g.S.StateStore.seen c.args.s.now).now.state c.args.due.now c.as_slice.result.now c.add_all.new.waiting c.args.work.now c.run_all.new.work (g.S.StateStore.seen c.run_all.new.s).now.state c.as_slice.ensures (λ differ. c.in_ok-add_all.ensures.new differ c.new-waiting.ensures) c.run_all.ensures.under_way

pub returns-in_err-add_all-clause-ends : goal.returns-in_err-add_all-clause-ends
returns-in_err-add_all-clause-ends g c = λ may. let p = err_from_is_err_and c.from_residual.result c.from_residual.ensures.1 in rw (p.1, p.2) tt

pub returns-in_err-add_all-clause-bounded : goal.returns-in_err-add_all-clause-bounded
returns-in_err-add_all-clause-bounded g c = λ may. nothing-done _ _

pub returns-in_err-add_all-clause-within : goal.returns-in_err-add_all-clause-within
returns-in_err-add_all-clause-within g c = none-counted c.args.limit c.args.work.now
