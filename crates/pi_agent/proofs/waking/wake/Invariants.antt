use Rattle.std.proofs.Common.{◌≡◌, Some, slice_get, drop}
use Rattle.pi_constraints.specs.Value.{IsAcyclic}
use Rattle.pi_constraints.specs.State.{Agent, bindings}
use Rattle.pi_settling.specs.Answers.{first_answered}
use Rattle.pi_agent.proofs.waking.wake.Given as goal

abbrev pub invariant-loop-i : goal.invariant-loop-i
invariant-loop-i g l = (l.woken ≡ l.initial.woken) × ((a : Agent) → IsAcyclic (bindings (g.S.StateStore.seen l.s).now.state) → slice_get (g.S.StateStore.seen l.s).now.state.agents l.agent ≡ Some a →
    first_answered (bindings (g.S.StateStore.seen l.s).now.state) l.event l.agent 0 a.watches ≡ first_answered (bindings (g.S.StateStore.seen l.s).now.state) l.event l.agent l.i (drop l.i a.watches))
