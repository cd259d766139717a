use Rattle.pi_resume_spec.proofs.LanguageLemmas.{runs-resume}
use Rattle.pi_resume_spec.proofs.laws.language.queries_resume.Goals as goal

pub returns : goal.returns
returns c = runs-resume
