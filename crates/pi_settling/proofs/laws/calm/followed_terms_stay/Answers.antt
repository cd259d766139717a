use Rattle.pi_settling.proofs.CalmFollowed.{stable_keeps_followed, settled_keeps_followed, new_variables_keep_followed, confined_keeps_followed, constraints_keep_followed}
use Rattle.pi_settling.proofs.CalmGoals.{within_keeps_followed, notin_keeps_followed}
use Rattle.pi_settling.proofs.CalmPosted.{posted_keeps_followed}
use Rattle.pi_settling.proofs.laws.calm.followed_terms_stay.Goals as goal

pub returns-clause-stable : goal.returns-clause-stable
returns-clause-stable c = stable_keeps_followed

pub returns-clause-settled : goal.returns-clause-settled
returns-clause-settled c = settled_keeps_followed

pub returns-clause-within : goal.returns-clause-within
returns-clause-within c = within_keeps_followed

pub returns-clause-notin : goal.returns-clause-notin
returns-clause-notin c = notin_keeps_followed

pub returns-clause-posted : goal.returns-clause-posted
returns-clause-posted c = posted_keeps_followed

pub returns-clause-confined : goal.returns-clause-confined
returns-clause-confined c = confined_keeps_followed

pub returns-clause-constraints : goal.returns-clause-constraints
returns-clause-constraints c = constraints_keep_followed

pub returns-clause-new : goal.returns-clause-new
returns-clause-new c = new_variables_keep_followed
