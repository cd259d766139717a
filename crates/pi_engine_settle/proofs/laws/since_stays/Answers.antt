use Rattle.pi_engine_settle.proofs.MarkLemmas.{since-stays}
use Rattle.pi_engine_settle.proofs.laws.since_stays.Goals as goal

pub returns : goal.returns
returns g c = since-stays
