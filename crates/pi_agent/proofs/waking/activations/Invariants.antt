use Rattle.std.proofs.Common.{◌≡◌, ◌++◌, drop}
use Rattle.pi_constraints.specs.Value.{IsAcyclic}
use Rattle.pi_constraints.specs.State.{bindings}
use Rattle.pi_settling.specs.Answers.{activations}
use Rattle.pi_agent.proofs.waking.activations.Given as goal

abbrev pub invariant-loop-i : goal.invariant-loop-i
invariant-loop-i g l = IsAcyclic (bindings (g.S.StateStore.seen l.s).now.state) → l.woken ++ activations (g.S.StateStore.seen l.s).now.state (drop l.i l.events) ≡ activations (g.S.StateStore.seen l.s).now.state l.fn.events
