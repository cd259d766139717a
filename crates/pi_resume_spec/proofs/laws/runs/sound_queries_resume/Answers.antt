use Rattle.pi_resume_spec.proofs.EachRun.{sound-tell, sound-resumed, sound-reach}
use Rattle.pi_resume_spec.proofs.laws.runs.sound_queries_resume.Goals as goal

pub returns-clause-run : goal.returns-clause-run
returns-clause-run c = sound-tell

pub returns-clause-resumed : goal.returns-clause-resumed
returns-clause-resumed c = sound-resumed

pub returns-clause-reach : goal.returns-clause-reach
returns-clause-reach c = sound-reach
