use Rattle.pi_settling.proofs.BoundLemmas.{runs_are_bounded}
use Rattle.pi_settling.proofs.laws.runs.runs_are_bounded.Goals as goal

pub returns : goal.returns
returns c = runs_are_bounded
