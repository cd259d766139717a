use Rattle.pi_engine_stands.proofs.ComesBackLemmas.{entries-keep, returns-to-the-making}
use Rattle.pi_engine_stands.proofs.laws.entries_come_back.Goals as goal

pub returns-clause-one_mark : goal.returns-clause-one_mark
returns-clause-one_mark g c = entries-keep

pub returns-clause-returns : goal.returns-clause-returns
returns-clause-returns g c = returns-to-the-making
