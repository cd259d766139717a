use Rattle.pi_resume_spec.proofs.LanguageLemmas.{answers-have-their-paths}
use Rattle.pi_resume_spec.proofs.laws.language.answers_have_their_paths.Goals as goal

pub returns : goal.returns
returns c = answers-have-their-paths
