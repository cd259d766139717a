use Rattle.pi_store_blocks.proofs.RefLemmas as lemmas
use Rattle.pi_store_blocks.proofs.laws.refs_stay.Goals as goal

pub returns : goal.returns
returns c = lemmas.refs_stay
