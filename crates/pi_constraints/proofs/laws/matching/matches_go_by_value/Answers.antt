use Rattle.pi_constraints.proofs.HeadMatchLemmas.{matches-by_value, head-matches-by_value}
use Rattle.pi_constraints.proofs.laws.matching.matches_go_by_value.Goals as goal

pub returns-clause-patterns : goal.returns-clause-patterns
returns-clause-patterns c = matches-by_value

pub returns-clause-heads : goal.returns-clause-heads
returns-clause-heads c = head-matches-by_value
