use Rattle.pi_region.proofs.BackLemmas.{from_itself, through, two_parts}
use Rattle.pi_region.proofs.ChangeLemmas.{appended_advances}
use Rattle.pi_region.proofs.laws.the_way_back.Goals as goal

pub returns-clause-from_itself : goal.returns-clause-from_itself
returns-clause-from_itself c = from_itself

pub returns-clause-words : goal.returns-clause-words
returns-clause-words c = appended_advances

pub returns-clause-through : goal.returns-clause-through
returns-clause-through c = through

pub returns-clause-two_parts : goal.returns-clause-two_parts
returns-clause-two_parts c = two_parts
