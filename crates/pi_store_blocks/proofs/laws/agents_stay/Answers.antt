use Rattle.pi_store_blocks.proofs.AgentLemmas.{read_back, outlast}
use Rattle.pi_store_blocks.proofs.laws.agents_stay.Goals as goal

pub returns-clause-read_back : goal.returns-clause-read_back
returns-clause-read_back c = read_back

pub returns-clause-outlast : goal.returns-clause-outlast
returns-clause-outlast c = outlast
