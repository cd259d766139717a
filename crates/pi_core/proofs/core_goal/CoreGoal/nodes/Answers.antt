use Rattle.std.proofs.Common.{◌∙◌, ap, arith}
use Rattle.pi_core.specs.GoalCells.{flat}
use Rattle.pi_core.proofs.GoalPlaces.{length-cells}
use Rattle.pi_core.proofs.core_goal.CoreGoal.nodes.Goals as goal

pub returns : goal.returns
returns c = omega (arith, length-cells c.args.self.now c.self.inside.cells.items (c.self.invariant ∙ ap flat c.self.view_is))
