use Rattle.pi_constraints.proofs.UnifyTurns.{no_pairs, first_pair}
use Rattle.pi_constraints.proofs.laws.unification.pairs_are_taken_from_the_left.Goals as goal

pub returns-clause-none : goal.returns-clause-none
returns-clause-none c = no_pairs

pub returns-clause-first : goal.returns-clause-first
returns-clause-first c = first_pair
