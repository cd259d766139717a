use Rattle.pi_constraints.proofs.MatchLemmas.{match_fills, match_is_least, match_fails, variable_wants_slot}
use Rattle.pi_constraints.proofs.laws.matching.matches_are_least.Goals as goal

pub returns-clause-fills : goal.returns-clause-fills
returns-clause-fills c = match_fills

pub returns-clause-least : goal.returns-clause-least
returns-clause-least c = match_is_least

pub returns-clause-fails : goal.returns-clause-fails
returns-clause-fails c = match_fails

pub returns-clause-variable : goal.returns-clause-variable
returns-clause-variable c = variable_wants_slot
