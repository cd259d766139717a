use Rattle.std.proofs.Common.{◌≡◌, ◌++◌, drop}
use Rattle.pi_constraints.specs.Value.{IsAcyclic}
use Rattle.pi_constraints.specs.State.{bindings}
use Rattle.pi_settling.specs.Answers.{activations_from}
use Rattle.pi_agent.proofs.waking.wake_agents.Given as goal

abbrev pub invariant-loop-agent : goal.invariant-loop-agent
invariant-loop-agent g l = IsAcyclic (bindings (g.S.StateStore.seen l.s).now.state) →
    l.woken ++ activations_from (bindings (g.S.StateStore.seen l.s).now.state) l.event l.agent (drop l.agent (g.S.StateStore.seen l.s).now.state.agents)
    ≡ l.initial.woken ++ activations_from (bindings (g.S.StateStore.seen l.s).now.state) l.event 0 (g.S.StateStore.seen l.s).now.state.agents
