use Rattle.pi_constraints.specs.Constraint.{SumHasVariable}
use Rattle.pi_store.proofs.PutLemmas.{PutSoFar}
use Rattle.pi_store.proofs.post.put_on_sum.Given as goal

abbrev pub invariant-loop-term : goal.invariant-loop-term
invariant-loop-term l = PutSoFar SumHasVariable l.term-items l.term-index l.initial.words l.words l.number
