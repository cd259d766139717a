use Rattle.pi_constraints.specs.State.{bindings}
use Rattle.pi_agent.proofs.WakeLemmas.{ended-turn}
use Rattle.pi_agent.proofs.waking.wake_agent.Goals as goal

pub returns-in-None : goal.returns-in-None
returns-in-None g c = λ a acyclic at. ended-turn (bindings (g.S.StateStore.seen c.args.s.now).now.state) c.args.event.now c.args.agent a c.args.woken.now (c.in-None.ensures a at)
