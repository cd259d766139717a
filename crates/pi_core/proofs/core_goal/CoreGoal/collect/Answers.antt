use Rattle.pi_core.specs.GoalTree.{goal_at}
use Rattle.pi_core.proofs.core_goal.CoreGoal.collect.Goals as goal

pub returns : goal.returns
unfolding goal_at
returns c = record { ok = c.unary.ensures.ok }
