use Rattle.std.proofs.Common.{◌≡◌, take}
use Rattle.pi_core.specs.GoalTree.{goals_of}
use Rattle.pi_core.specs.GoalCells.{flat_all}
use Rattle.pi_core.proofs.core_goal.cells_of.Given as goal

abbrev pub invariant-loop-goal : goal.invariant-loop-goal
invariant-loop-goal l = l.cells.items ≡ flat_all (goals_of (take l.goal-index l.goals))
