use Rattle.pi_constraints.proofs.DomainLemmas.{values_lie_in_spans, values_ascend, values_are_within_bounds, same_values_same_domain, IsLeastValue-first, IsGreatestValue-last}
use Rattle.pi_constraints.proofs.laws.domains.domains_are_sets.Goals as goal

pub returns-clause-values : goal.returns-clause-values
returns-clause-values c = values_lie_in_spans

pub returns-clause-ascending : goal.returns-clause-ascending
returns-clause-ascending c = values_ascend

pub returns-clause-bounds : goal.returns-clause-bounds
returns-clause-bounds c = values_are_within_bounds

pub returns-clause-same : goal.returns-clause-same
returns-clause-same c = same_values_same_domain

pub returns-clause-least : goal.returns-clause-least
returns-clause-least c = IsLeastValue-first

pub returns-clause-greatest : goal.returns-clause-greatest
returns-clause-greatest c = IsGreatestValue-last
