use Rattle.std.proofs.Common.{sym}
use Rattle.pi_agent.proofs.WakeLemmas.{event-turn, events-done, event-at}
use Rattle.pi_agent.proofs.waking.activations.Goals as goal

pub loop-i-preserved : goal.loop-i-preserved
loop-i-preserved g c = λ acyclic.
    let s = (g.S.StateStore.seen c.args.s.now).now.state in
    event-turn s c.as_slice-events.result.now c.loop-i.i c.index-events-i.result c.loop-i.woken c.wake_agents.new.woken _ (event-at c.as_slice-events.result.now c.loop-i.i c.index-events-i.result c.loop-i-test.true (sym c.index-events-i.is))
    (c.loop-i.invariant acyclic) (c.in_ok-wake_agents.ensures acyclic)

pub returns : goal.returns
returns g c = λ acyclic.
    let s = (g.S.StateStore.seen c.args.s.now).now.state in
    events-done s c.as_slice-events.result.now c.loop-i.i c.loop-i.woken _ c.loop-i-test.false (c.loop-i.invariant acyclic)
