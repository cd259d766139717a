use Rattle.pi_sat_spec.proofs.GrowLemmas.{right_entries_grow}
use Rattle.pi_sat_spec.proofs.laws.logs.right_entries_grow.Goals as goal

pub returns : goal.returns
returns c = right_entries_grow
