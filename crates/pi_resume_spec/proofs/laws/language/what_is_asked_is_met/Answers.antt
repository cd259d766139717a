use Rattle.pi_resume_spec.proofs.LanguageLemmas.{built-is-later, sound-is-committed}
use Rattle.pi_resume_spec.proofs.laws.language.what_is_asked_is_met.Goals as goal

pub returns-clause-later : goal.returns-clause-later
returns-clause-later c = built-is-later

pub returns-clause-quiet : goal.returns-clause-quiet
returns-clause-quiet c = sound-is-committed
