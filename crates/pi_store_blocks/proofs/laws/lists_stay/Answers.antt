use Rattle.pi_store_blocks.proofs.ListLemmas.{read_back, outlast, come_back, say_nothing}
use Rattle.pi_store_blocks.proofs.laws.lists_stay.Goals as goal

pub returns-clause-read_back : goal.returns-clause-read_back
returns-clause-read_back c = read_back

pub returns-clause-outlast : goal.returns-clause-outlast
returns-clause-outlast c = outlast

pub returns-clause-come_back : goal.returns-clause-come_back
returns-clause-come_back c = come_back

pub returns-clause-say_nothing : goal.returns-clause-say_nothing
returns-clause-say_nothing c = say_nothing
