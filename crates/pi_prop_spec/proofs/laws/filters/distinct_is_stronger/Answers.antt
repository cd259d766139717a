use Rattle.pi_prop_spec.proofs.FilterLemmas.{distinct_says_different, distinct_leaves_no_more}
use Rattle.pi_prop_spec.proofs.laws.filters.distinct_is_stronger.Goals as goal

pub returns-clause-solutions : goal.returns-clause-solutions
returns-clause-solutions c = distinct_says_different

pub returns-clause-leaves : goal.returns-clause-leaves
returns-clause-leaves c = distinct_leaves_no_more
