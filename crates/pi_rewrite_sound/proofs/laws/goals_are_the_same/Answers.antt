use Rattle.pi_rewrite_sound.proofs.RunLemmas.{goals-are-the-same, runs-are-the-same}
use Rattle.pi_rewrite_sound.proofs.laws.goals_are_the_same.Goals as goal

pub returns-clause-goals : goal.returns-clause-goals
returns-clause-goals c = goals-are-the-same

pub returns-clause-runs : goal.returns-clause-runs
returns-clause-runs c = runs-are-the-same
