use Rattle.std.proofs.Common.{subst}
use Rattle.std.specs.Prelude.{Bool, Ok, Err}
use Rattle.pi_settling.specs.declared.stop.PropStop.{PropStop}
use Rattle.pi_queue.specs.Ends.{Ends, worked}
use Rattle.pi_engine_settle.proofs.EndLemmas.{has-settled, has-lost, has-stopped}
use Rattle.pi_engine_settle.proofs.propagating.settle.Goals as goal

pub returns-then-some-clause-comes : goal.returns-then-some-clause-comes
returns-then-some-clause-comes g c = λ before d is may.
    let s = (g.S.StateStore.seen c.args.store.now).now.state in
    let r = (g.S.StateStore.seen c.propagate_from.new.s).now.state in
    let w = worked c.args.limit c.args.work.now c.propagate_from.new.work in
    has-settled before s r c.args.due.now c.args.work.now c.propagate_from.new.work is may d (λ m. subst (λ (b : Bool). Ends s c.args.due.now w r (Ok b)) c.if-some.true (c.in-Ok.ensures.ends m)) c.propagate_from.ensures.bounded

pub returns-else-some-clause-comes : goal.returns-else-some-clause-comes
returns-else-some-clause-comes g c = λ before d is may.
    let s = (g.S.StateStore.seen c.args.store.now).now.state in
    let r = (g.S.StateStore.seen c.propagate_from.new.s).now.state in
    let w = worked c.args.limit c.args.work.now c.propagate_from.new.work in
    has-lost before s r c.args.due.now c.args.work.now c.propagate_from.new.work is may d (λ m. subst (λ (b : Bool). Ends s c.args.due.now w r (Ok b)) c.if-some.false (c.in-Ok.ensures.ends m)) c.propagate_from.ensures.bounded

pub returns-in-Err-WorkSpent-clause-comes : goal.returns-in-Err-WorkSpent-clause-comes
returns-in-Err-WorkSpent-clause-comes g c = λ before d is may.
    let s = (g.S.StateStore.seen c.args.store.now).now.state in
    let r = (g.S.StateStore.seen c.propagate_from.new.s).now.state in
    let w = worked c.args.limit c.args.work.now c.propagate_from.new.work in
    has-stopped before s r c.args.due.now w is may d
    (λ m. subst (λ (e : PropStop). Ends s c.args.due.now w r (Err e)) c.in-Err-WorkSpent.field-0-is (c.in-Err-WorkSpent.ensures.ends m))
