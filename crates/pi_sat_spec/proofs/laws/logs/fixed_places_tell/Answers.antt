use Rattle.pi_sat_spec.proofs.FixedLemmas.{fixed_places_tell}
use Rattle.pi_sat_spec.proofs.laws.logs.fixed_places_tell.Goals as goal

pub returns : goal.returns
returns c = fixed_places_tell
