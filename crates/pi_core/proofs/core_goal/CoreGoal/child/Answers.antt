use Rattle.std.proofs.Common.{◌<◌, length, ◌∙◌, ap, arith, rules, lt_trans}
use Rattle.pi_core.specs.GoalTree.{subgoal}
use Rattle.pi_core.specs.GoalCells.{flat}
use Rattle.pi_core.proofs.GoalPlaces.{length-cells, place_of-first, place_of-within, subgoal-place_of, at-within, step-fits, step-place, end-place}
use Rattle.pi_core.proofs.core_goal.CoreGoal.child.Goals as goal

pub overflow_add-at : goal.overflow_add-at
overflow_add-at c = omega (arith, length-cells c.args.self.now c.self.inside.cells.items (c.self.invariant ∙ ap flat c.self.view_is))

pub loop-init : goal.loop-init
loop-init c = place_of-first c.args.self.now c.args.i

pub offset_bounds-cells-at : goal.offset_bounds-cells-at
offset_bounds-cells-at c =
    let within : c.loop.at < length c.as_slice-cells.result.now = at-within c.args.self.now c.as_slice-cells.result.now c.args.i c.loop.counter c.loop.at (c.as_slice-cells.ensures.value ∙ (c.self.invariant ∙ ap flat c.self.view_is)) c.requires.node (lt_trans c.loop-test.true c.requires.has) c.loop.invariant
    in search rules

pub bounds-cells-at : goal.bounds-cells-at
bounds-cells-at c = at-within c.args.self.now c.as_slice-cells.result.now c.args.i c.loop.counter c.loop.at (c.as_slice-cells.ensures.value ∙ (c.self.invariant ∙ ap flat c.self.view_is)) c.requires.node (lt_trans c.loop-test.true c.requires.has) c.loop.invariant

pub bounds-cells-at-in-loop : goal.bounds-cells-at-in-loop
bounds-cells-at-in-loop c = at-within c.args.self.now c.as_slice-cells.result.now c.args.i c.loop.counter c.loop.at (c.as_slice-cells.ensures.value ∙ (c.self.invariant ∙ ap flat c.self.view_is)) c.requires.node (lt_trans c.loop-test.true c.requires.has) c.loop.invariant

pub overflow_add-at-in-loop : goal.overflow_add-at-in-loop
overflow_add-at-in-loop c = omega (arith, step-fits c.args.self.now c.as_slice-cells.result.now c.args.i c.loop.counter c.loop.at c.index-cells-at.result (c.as_slice-cells.ensures.value ∙ (c.self.invariant ∙ ap flat c.self.view_is)) c.requires.node (lt_trans c.loop-test.true c.requires.has) c.loop.invariant c.index-cells-at.is)

pub loop-preserved : goal.loop-preserved
loop-preserved c = step-place c.args.self.now c.as_slice-cells.result.now c.args.i c.loop.counter c.loop.at c.index-cells-at.result (c.as_slice-cells.ensures.value ∙ (c.self.invariant ∙ ap flat c.self.view_is)) c.requires.node (lt_trans c.loop-test.true c.requires.has) c.loop.invariant c.index-cells-at.is

pub returns-clause-within : goal.returns-clause-within
returns-clause-within c =
    omega (arith, end-place c.args.self.now c.args.i c.args.k c.loop.counter c.loop.at c.loop.auto.counter-end c.loop-test.false c.loop.invariant, place_of-within c.args.self.now c.args.i c.args.k c.requires.node c.requires.has)

pub returns-clause-is : goal.returns-clause-is
returns-clause-is c =
    ap (subgoal c.args.self.now) (end-place c.args.self.now c.args.i c.args.k c.loop.counter c.loop.at c.loop.auto.counter-end c.loop-test.false c.loop.invariant)
    ∙ subgoal-place_of c.args.self.now c.args.i c.args.k c.requires.node c.requires.has
