use Rattle.pi_constraints.proofs.MatchLemmas.{head_match_fills, head_match_is_least, head_match_fails, slot_takes_identical}
use Rattle.pi_constraints.proofs.laws.matching.head_matches_are_least.Goals as goal

pub returns-clause-fills : goal.returns-clause-fills
returns-clause-fills c = head_match_fills

pub returns-clause-least : goal.returns-clause-least
returns-clause-least c = head_match_is_least

pub returns-clause-fails : goal.returns-clause-fails
returns-clause-fails c = head_match_fails

pub returns-clause-identical : goal.returns-clause-identical
returns-clause-identical c = slot_takes_identical
