use Rattle.pi_resume_spec.proofs.PlainLemmas.{plain_of_rules, plain_of_numbered, plain_of_sequence, plain_of_choice, plain_of_catch}
use Rattle.pi_resume_spec.proofs.laws.paths.paths_add_nothing.Goals as goal

pub returns-clause-numbered : goal.returns-clause-numbered
returns-clause-numbered g c = plain_of_numbered

pub returns-clause-sequence : goal.returns-clause-sequence
returns-clause-sequence g c = plain_of_sequence

pub returns-clause-choice : goal.returns-clause-choice
returns-clause-choice g c = plain_of_choice

pub returns-clause-catching : goal.returns-clause-catching
returns-clause-catching g c = plain_of_catch

pub returns-clause-rules : goal.returns-clause-rules
returns-clause-rules g c = plain_of_rules
