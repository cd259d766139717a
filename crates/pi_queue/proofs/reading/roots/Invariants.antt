use Rattle.std.proofs.Common.{◌≡◌, length, take}
use Rattle.std.specs.Prelude.{map}
use Rattle.pi_constraints.specs.Value.{IsAcyclic}
use Rattle.pi_constraints.specs.State.{bindings}
use Rattle.pi_settling.specs.Roots.{root_item}
use Rattle.pi_queue.specs.Reading.{AreRead}
use Rattle.pi_queue.proofs.reading.roots.Given as goal

abbrev pub invariant-loop-i : goal.invariant-loop-i
invariant-loop-i g l = (length l.roots.items ≡ l.i) × (IsAcyclic (bindings (g.S.StateStore.seen l.s).now.state) → AreRead (g.S.StateStore.seen l.s).now.state l.items → l.roots.items ≡ map (root_item (g.S.StateStore.seen l.s).now.state) (take l.i l.items))
