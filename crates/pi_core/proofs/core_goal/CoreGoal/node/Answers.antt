use Rattle.std.proofs.Common.{◌≡◌, ◌∙◌, ap, sym, arith}
use Rattle.pi_core.specs.GoalTree.{subgoal}
use Rattle.pi_core.specs.GoalCells.{flat, cell_of}
use Rattle.pi_core.specs.declared.goal_node.GoalCell.{GoalCell}
use Rattle.pi_core.proofs.GoalPlaces.{length-cells, cell-at, ShowsNode-kind, child_count-kind}
use Rattle.pi_core.proofs.core_goal.CoreGoal.node.Goals as goal

pub index-requires : goal.index-requires
index-requires c = omega (arith, length-cells c.args.self.now c.self.inside.cells.items (c.self.invariant ∙ ap flat c.self.view_is))

pub returns-clause-shows : goal.returns-clause-shows
returns-clause-shows c =
    let cell : c.index.result.now ≡ cell_of (subgoal c.args.self.now c.args.i) =
    cell-at c.args.self.now c.self.inside.cells.items c.args.i c.index.result.now (c.self.invariant ∙ ap flat c.self.view_is) c.requires c.index.ensures
    in ShowsNode-kind c.node.result (subgoal c.args.self.now c.args.i) (sym (ap (λ (r : GoalCell). r.kind) cell) ∙ sym c.node.ensures)

pub returns-clause-has : goal.returns-clause-has
returns-clause-has c =
    let cell : c.index.result.now ≡ cell_of (subgoal c.args.self.now c.args.i) =
    cell-at c.args.self.now c.self.inside.cells.items c.args.i c.index.result.now (c.self.invariant ∙ ap flat c.self.view_is) c.requires c.index.ensures
    in child_count-kind c.node.result (subgoal c.args.self.now c.args.i) (sym (ap (λ (r : GoalCell). r.kind) cell) ∙ sym c.node.ensures)
