use Rattle.pi_rewrite_sound.proofs.FaultlessGoals.{faultless-goals-are-asked}
use Rattle.pi_rewrite_sound.proofs.FaultlessPrograms.{faultless-programs-are-within}
use Rattle.pi_rewrite_sound.proofs.laws.faultless_texts_are_lowered.Goals as goal

pub returns-clause-programs : goal.returns-clause-programs
returns-clause-programs c = faultless-programs-are-within

pub returns-clause-goals : goal.returns-clause-goals
returns-clause-goals c = faultless-goals-are-asked
