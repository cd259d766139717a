use Rattle.pi_prop_spec.proofs.PostingSumLemmas.{sums_add, sums_scale}
use Rattle.pi_prop_spec.proofs.CoefficientLemmas.{sums_stay_joined}
use Rattle.pi_prop_spec.proofs.laws.postings.sums_are_joined.Goals as goal

pub returns-clause-add : goal.returns-clause-add
returns-clause-add c = sums_add

pub returns-clause-scale : goal.returns-clause-scale
returns-clause-scale c = sums_scale

pub returns-clause-joined : goal.returns-clause-joined
returns-clause-joined c = sums_stay_joined
