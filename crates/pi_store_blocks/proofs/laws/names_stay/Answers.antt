use Rattle.pi_store_blocks.proofs.NameTables.{names_stay}
use Rattle.pi_store_blocks.proofs.laws.names_stay.Goals as goal

pub returns : goal.returns
returns c = names_stay
