use Rattle.pi_resume_spec.proofs.StageLemmas.{draining-adds-nothing, draining-is-guided}
use Rattle.pi_resume_spec.proofs.laws.stages.drainings_have_paths.Goals as goal

pub returns-clause-plain : goal.returns-clause-plain
returns-clause-plain g c = draining-adds-nothing

pub returns-clause-guided : goal.returns-clause-guided
returns-clause-guided g c = draining-is-guided
