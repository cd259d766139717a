use Rattle.pi_store_blocks.proofs.NumberLemmas.{moved_back, halves_whole}
use Rattle.pi_store_blocks.proofs.laws.numbers_read_back.Goals as goal

pub returns-clause-moved : goal.returns-clause-moved
returns-clause-moved c = moved_back

pub returns-clause-halves : goal.returns-clause-halves
returns-clause-halves c = halves_whole
