use Rattle.std.proofs.Common.{ℕ, ◌<◌, take}
use Rattle.std.specs.Prelude.{Contains}
use Rattle.pi_constraints.specs.Value.{IsAcyclic}
use Rattle.pi_constraints.specs.State.{bindings, next}
use Rattle.pi_constraints.specs.Store.{IsPostedOn}
use Rattle.pi_queue.specs.Waiting.{AreAdded}
use Rattle.pi_queue.proofs.WaitingLemmas.{OnSome}
use Rattle.pi_queue.proofs.waking.wake.Given as goal

abbrev pub invariant-loop-k : goal.invariant-loop-k
invariant-loop-k g l = IsAcyclic (bindings (g.S.StateStore.seen l.s).now.state) → ((n : ℕ) → Contains l.variables n → n < next (g.S.StateStore.seen l.s).now.state) → AreAdded (OnSome (IsPostedOn (g.S.StateStore.seen l.s).now.state) (take l.k l.variables)) l.initial.waiting l.waiting
