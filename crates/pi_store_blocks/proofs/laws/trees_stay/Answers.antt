use Rattle.pi_store_blocks.proofs.HeapLemmas as lemmas
use Rattle.pi_store_blocks.proofs.laws.trees_stay.Goals as goal

pub returns : goal.returns
returns c = lemmas.trees_stay
