use Rattle.pi_prop_filters.proofs.JoinLemmas.{JoinedBefore}
use Rattle.pi_prop_filters.proofs.joins.joined.Given as goal

abbrev pub invariant-loop-i : goal.invariant-loop-i
invariant-loop-i l = JoinedBefore l.spans l.i l.done.items l.last
