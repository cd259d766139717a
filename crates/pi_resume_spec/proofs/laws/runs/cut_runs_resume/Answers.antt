use Rattle.pi_resume_spec.proofs.PathRunLemmas.{told-resume, cut-resume, told-good}
use Rattle.pi_resume_spec.proofs.laws.runs.cut_runs_resume.Goals as goal

pub returns-clause-resume : goal.returns-clause-resume
returns-clause-resume c = told-resume

pub returns-clause-cut : goal.returns-clause-cut
returns-clause-cut c = cut-resume

pub returns-clause-good : goal.returns-clause-good
returns-clause-good c = told-good
