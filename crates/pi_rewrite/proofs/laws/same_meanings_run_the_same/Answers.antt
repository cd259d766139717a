use Rattle.pi_rewrite.proofs.CutLemmas.{same-meaning-runs-the-same}
use Rattle.pi_rewrite.proofs.laws.same_meanings_run_the_same.Goals as goal

pub returns : goal.returns
returns c = same-meaning-runs-the-same
