use Rattle.pi_constraints.specs.Store.{IsPostedOn}
use Rattle.pi_queue.proofs.WaitingLemmas.{added-listed}
use Rattle.pi_queue.proofs.waking.wake_on.Goals as goal

pub returns : goal.returns
returns g c = λ acyclic made.
    added-listed (IsPostedOn (g.S.StateStore.seen c.args.s.now).now.state c.args.v) c.in_ok-posted.posted c.as_slice.result.now c.args.waiting.now c.add_all.new.waiting (c.in_ok-posted.ensures acyclic made) c.as_slice.ensures c.in_ok-add_all.ensures.added
