use Rattle.pi_rewrite_sound.proofs.RunLemmas.{levels-are-the-same, calls-are-the-same}
use Rattle.pi_rewrite_sound.proofs.laws.levels_are_the_same.Goals as goal

pub returns-clause-levels : goal.returns-clause-levels
returns-clause-levels c = levels-are-the-same

pub returns-clause-calls : goal.returns-clause-calls
returns-clause-calls c = calls-are-the-same
