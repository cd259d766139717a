use Rattle.pi_settling.proofs.CalmUnify.{unified_may_settle, unified_keeps_the_rest}
use Rattle.pi_settling.proofs.CalmGoals.{within_may_settle, notin_may_settle}
use Rattle.pi_settling.proofs.CalmPosted.{posted_may_settle, confined_may_settle}
use Rattle.pi_settling.proofs.laws.calm.goals_keep_settling.Goals as goal

pub returns-clause-unified : goal.returns-clause-unified
returns-clause-unified c = unified_may_settle

pub returns-clause-within : goal.returns-clause-within
returns-clause-within c = within_may_settle

pub returns-clause-notin : goal.returns-clause-notin
returns-clause-notin c = notin_may_settle

pub returns-clause-posted : goal.returns-clause-posted
returns-clause-posted c = posted_may_settle

pub returns-clause-confined : goal.returns-clause-confined
returns-clause-confined c = confined_may_settle

pub returns-clause-rest : goal.returns-clause-rest
returns-clause-rest c = unified_keeps_the_rest
