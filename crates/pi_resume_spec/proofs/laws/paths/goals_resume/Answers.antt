use Rattle.pi_resume_spec.proofs.SimpleLemmas.{simple_is_resumable}
use Rattle.pi_resume_spec.proofs.ResumedLemmas.{sequences_are_resumable}
use Rattle.pi_resume_spec.proofs.ChoiceLemmas.{choices_are_resumable, catches_are_resumable, rules_are_resumable, ticks_are_resumable, conditions_are_resumable}
use Rattle.pi_resume_spec.proofs.laws.paths.goals_resume.Goals as goal

pub returns-clause-simple : goal.returns-clause-simple
returns-clause-simple g c = simple_is_resumable

pub returns-clause-sequence : goal.returns-clause-sequence
returns-clause-sequence g c = sequences_are_resumable

pub returns-clause-choice : goal.returns-clause-choice
returns-clause-choice g c = choices_are_resumable

pub returns-clause-catching : goal.returns-clause-catching
returns-clause-catching g c = catches_are_resumable

pub returns-clause-rules : goal.returns-clause-rules
returns-clause-rules g c = rules_are_resumable

pub returns-clause-ticks : goal.returns-clause-ticks
returns-clause-ticks g c = ticks_are_resumable

pub returns-clause-conditions : goal.returns-clause-conditions
returns-clause-conditions g c = conditions_are_resumable
