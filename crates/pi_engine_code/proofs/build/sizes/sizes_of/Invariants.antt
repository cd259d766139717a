use Rattle.std.proofs.Common.{◌≤◌}
use Rattle.pi_core.specs.GoalTree.{nodes}
use Rattle.pi_engine_code.specs.Laid.{Sized}
use Rattle.pi_engine_code.proofs.build.sizes.sizes_of.Given as goal

-- the sizes from one on are set
abbrev pub invariant-loop-i : goal.invariant-loop-i
invariant-loop-i l = Sized l.goal l.sizes.items l.i × (l.i ≤ nodes l.goal)

abbrev pub decreases-loop-i : goal.decreases-loop-i
decreases-loop-i l = l.i
