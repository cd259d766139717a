use Rattle.pi_store.proofs.RestorationLemmas.{restoration}
use Rattle.pi_store.proofs.laws.restoration.Goals as goal

pub returns : goal.returns
returns c = restoration
