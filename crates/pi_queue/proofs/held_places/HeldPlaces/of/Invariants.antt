use Rattle.std.proofs.Common.{◌≡◌, length, take}
use Rattle.std.specs.Prelude.{map}
use Rattle.pi_constraints.specs.Constraint.{AreItems}
use Rattle.pi_queue.specs.Standing.{standing_at}
use Rattle.pi_queue.proofs.held_places.HeldPlaces.of.Given as goal

abbrev pub invariant-loop-k : goal.invariant-loop-k
invariant-loop-k g l = (length l.held.items ≡ l.k) × (AreItems l.items → l.held.items ≡ map (standing_at (g.S.StateStore.seen l.store).now.state) (take l.k l.items))
