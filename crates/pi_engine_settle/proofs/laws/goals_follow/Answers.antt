use Rattle.pi_meaning.proofs.Shared.FollowLemmas.{follows-itself, follows-then, follows-news, follows-unified, follows-within, follows-notin, follows-posted}
use Rattle.pi_engine_settle.proofs.laws.goals_follow.Goals as goal

pub returns-clause-itself : goal.returns-clause-itself
returns-clause-itself c = follows-itself

pub returns-clause-then : goal.returns-clause-then
returns-clause-then c = follows-then

pub returns-clause-new : goal.returns-clause-new
returns-clause-new c = follows-news

pub returns-clause-unified : goal.returns-clause-unified
returns-clause-unified c = follows-unified

pub returns-clause-within : goal.returns-clause-within
returns-clause-within c = follows-within

pub returns-clause-notin : goal.returns-clause-notin
returns-clause-notin c = follows-notin

pub returns-clause-posted : goal.returns-clause-posted
returns-clause-posted c = follows-posted
