use Rattle.pi_meaning.proofs.CoreMeaning.KeepsRules.{runs-keep-states}
use Rattle.pi_meaning.proofs.laws.meaning.runs_keep_states.Goals as goal

pub returns : goal.returns
returns c = runs-keep-states
