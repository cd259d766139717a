use Rattle.pi_prop_spec.proofs.DecidedLemmas.{leaves_is_decided}
use Rattle.pi_prop_spec.proofs.laws.decided.filters_are_decided.Goals as goal

pub returns : goal.returns
returns c = leaves_is_decided
