use Rattle.pi_settling.proofs.RunLemmas.{runs_keep_states}
use Rattle.pi_settling.proofs.laws.runs.runs_keep_states.Goals as goal

pub returns : goal.returns
returns c = runs_keep_states
