use Rattle.pi_constraints.proofs.JoinLemmas.{JoinsBefore}
use Rattle.pi_constraints.proofs.make.joined.Given as goal

abbrev pub invariant-loop-i : goal.invariant-loop-i
invariant-loop-i l = JoinsBefore l.values l.i l.spans.items l.last
