use Rattle.pi_engine_settle.proofs.AddLemmas.{none-changed, some-changed}
use Rattle.pi_engine_settle.proofs.since.add_changed.Goals as goal

pub returns-in-None : goal.returns-in-None
returns-in-None g c = λ before since f is. none-changed (g.S.StateStore.seen c.args.store.now) c.args.since.now before c.args.due.now c.in-None.is since

pub returns-in_ok-wake-in-Some : goal.returns-in_ok-wake-in-Some
returns-in_ok-wake-in-Some g c = λ before since f is.
    some-changed (g.S.StateStore.seen c.args.store.now) c.args.since.now c.in-Some.since before c.in_ok-changed-in-Some.changed c.as_slice.result.now c.args.due.now c.wake.new.waiting c.in-Some.is
    c.in_ok-changed-in-Some.ensures c.as_slice.ensures c.in_ok-wake-in-Some.ensures since f is
