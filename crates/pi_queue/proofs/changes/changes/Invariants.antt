use Rattle.std.proofs.Common.{◌≡◌, length}
use Rattle.std.specs.Prelude.{map}
use Rattle.pi_constraints.specs.Constraint.{AreItems}
use Rattle.pi_queue.specs.Standing.{standing_at}
use Rattle.pi_queue.proofs.ChangeLemmas.{AreFirstTold}
use Rattle.pi_queue.proofs.changes.changes.Given as goal

abbrev pub invariant-loop-k : goal.invariant-loop-k
invariant-loop-k g l = (length l.told.items ≡ l.k) × (AreItems l.items → AreFirstTold l.k (map (standing_at (g.S.StateStore.seen l.store).now.state) l.items) l.told.items l.held)
