use Rattle.std.proofs.Common.{rules}
use Rattle.pi_core.specs.GoalCells.{over, spelled}
use Rattle.pi_core.proofs.GoalCells.{cells-over, flat-cells, goal_of-cells}
use Rattle.pi_core.proofs.core_goal.over.Goals as goal

pub invariant_of-result : goal.invariant_of-result
invariant_of-result c =
    flat-cells (over c.args.kind (spelled c.args.below.items)) _
    (cells-over c.args.kind c.args.below.items c.append.new.self.items c.requires.spells c.requires.has (search rules))

pub returns : goal.returns
returns c =
    record {
      ok = goal_of-cells (over c.args.kind (spelled c.args.below.items)) _
          (cells-over c.args.kind c.args.below.items c.append.new.self.items c.requires.spells c.requires.has (search rules));
    }
