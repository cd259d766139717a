use Rattle.pi_store_blocks.proofs.RoundLemmas.{back}
use Rattle.pi_store_blocks.proofs.laws.constraints_read_back.Goals as goal

pub returns : goal.returns
returns c = back
