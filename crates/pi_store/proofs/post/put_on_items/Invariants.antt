use Rattle.pi_constraints.specs.Constraint.{HoldVariable}
use Rattle.pi_store.proofs.PutLemmas.{PutSoFar}
use Rattle.pi_store.proofs.post.put_on_items.Given as goal

abbrev pub invariant-loop-item : goal.invariant-loop-item
invariant-loop-item l = PutSoFar HoldVariable l.item-items l.item-index l.initial.words l.words l.number
