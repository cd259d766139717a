use Rattle.pi_solve_spec.proofs.ExpandedLemmas.{expanded_are_reached, chains_are_short}
use Rattle.pi_solve_spec.proofs.laws.work.calls_are_bounded.Goals as goal

pub returns-clause-expanded : goal.returns-clause-expanded
returns-clause-expanded c = expanded_are_reached

pub returns-clause-chains : goal.returns-clause-chains
returns-clause-chains c = chains_are_short
