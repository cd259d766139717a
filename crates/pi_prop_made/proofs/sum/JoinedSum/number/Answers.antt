-- No terms are joined.
use Rattle.pi_prop_made.proofs.SumLemmas.{none_joined}
use Rattle.pi_prop_made.proofs.sum.JoinedSum.number.Goals as goal

pub invariant_of-result : goal.invariant_of-result
invariant_of-result c = none_joined c.new.result c.new.ensures
