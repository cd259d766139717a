use Rattle.pi_resume_spec.proofs.ApartLemmas.{rules_are_apart, conditions_are_apart, ticks_are_apart, straight_is_apart, sequences_are_apart, choices_are_apart, catches_are_apart, no_two_paths_are_one}
use Rattle.pi_resume_spec.proofs.laws.paths.paths_lead_apart.Goals as goal

pub returns-clause-straight : goal.returns-clause-straight
returns-clause-straight g c = straight_is_apart

pub returns-clause-sequence : goal.returns-clause-sequence
returns-clause-sequence g c = sequences_are_apart

pub returns-clause-choice : goal.returns-clause-choice
returns-clause-choice g c = choices_are_apart

pub returns-clause-catching : goal.returns-clause-catching
returns-clause-catching g c = catches_are_apart

pub returns-clause-different : goal.returns-clause-different
returns-clause-different g c = no_two_paths_are_one

pub returns-clause-rules : goal.returns-clause-rules
returns-clause-rules g c = rules_are_apart

pub returns-clause-conditions : goal.returns-clause-conditions
returns-clause-conditions g c = conditions_are_apart

pub returns-clause-ticks : goal.returns-clause-ticks
returns-clause-ticks g c = ticks_are_apart
