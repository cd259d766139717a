use Rattle.std.proofs.Common.{arith, ◌<◌, ◌≤◌, length}
use Rattle.pi_constraints.specs.State.{bindings}
use Rattle.pi_agent.proofs.WakeLemmas.{agent-turn, agent-at, agents-done}
use Rattle.pi_agent.proofs.waking.wake_agents.Goals as goal

pub loop-agent-preserved : goal.loop-agent-preserved
loop-agent-preserved g c = λ acyclic.
    let s = (g.S.StateStore.seen c.args.s.now).now.state in
    let inside : c.loop-agent.agent < length s.agents = omega (arith, c.loop-agent-test.true, c.agents-agent-end.ensures) in
    let found = agent-at s.agents c.loop-agent.agent inside in
    agent-turn (bindings s) c.args.event.now c.loop-agent.agent s.agents found.0 c.loop-agent.woken c.wake_agent.new.woken _ found.1 (c.loop-agent.invariant acyclic) (c.in_ok-wake_agent.ensures found.0 acyclic found.1)

pub returns : goal.returns
returns g c = λ acyclic.
    let s = (g.S.StateStore.seen c.args.s.now).now.state in
    let past : length s.agents ≤ c.loop-agent.agent = omega (arith, c.loop-agent-test.false, c.agents-agent-end.ensures) in
    agents-done (bindings s) c.args.event.now c.loop-agent.agent s.agents c.loop-agent.woken _ past (c.loop-agent.invariant acyclic)
