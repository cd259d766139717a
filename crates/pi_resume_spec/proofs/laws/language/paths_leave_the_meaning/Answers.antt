use Rattle.pi_resume_spec.proofs.LanguageLemmas.{paths-add-nothing, goals-add-nothing}
use Rattle.pi_resume_spec.proofs.laws.language.paths_leave_the_meaning.Goals as goal

pub returns-clause-queries : goal.returns-clause-queries
returns-clause-queries c = paths-add-nothing

pub returns-clause-goals : goal.returns-clause-goals
returns-clause-goals c = goals-add-nothing
