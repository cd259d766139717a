use Rattle.std.proofs.Common.{get_or}
use Rattle.std.proofs.lemmas.List.Elements.{Contains-get_or}
use Rattle.pi_constraints.specs.Store.{IsPostedOn}
use Rattle.pi_queue.proofs.WaitingLemmas.{added-start, added-more, added-all}
use Rattle.pi_queue.proofs.waking.wake.Goals as goal

pub loop-k-init : goal.loop-k-init
loop-k-init g c = λ acyclic made. added-start (IsPostedOn (g.S.StateStore.seen c.args.s.now).now.state) c.args.variables.now c.args.waiting.now

pub loop-k-preserved : goal.loop-k-preserved
loop-k-preserved g c = λ acyclic made.
    let ns = c.args.variables.now in
    let k = c.loop-k.k in
    added-more (IsPostedOn (g.S.StateStore.seen c.args.s.now).now.state) ns k c.args.waiting.now c.loop-k.waiting c.wake_on.new.waiting c.loop-k-test.true (c.loop-k.invariant acyclic made)
    (c.in_ok-wake_on.ensures acyclic (made (get_or ns k 0) (Contains-get_or ns k 0 c.loop-k-test.true)))

pub returns : goal.returns
returns g c = λ acyclic made. added-all (IsPostedOn (g.S.StateStore.seen c.args.s.now).now.state) c.args.variables.now c.loop-k.k c.args.waiting.now c.loop-k.waiting c.loop-k-test.false (c.loop-k.invariant acyclic made)
