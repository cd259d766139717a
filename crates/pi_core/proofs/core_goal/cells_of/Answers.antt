use Rattle.std.proofs.Common.{◌≡◌, ◌++◌, ◌∙◌, ap, sym}
use Rattle.pi_core.specs.GoalCells.{flat}
use Rattle.pi_core.proofs.GoalCells.{flat_all-none, flat_all-more}
use Rattle.pi_core.proofs.core_goal.cells_of.Goals as goal

pub loop-goal-init : goal.loop-goal-init
loop-goal-init c = c.new-cells.ensures.items ∙ sym flat_all-none

-- the cells of this goal
pushed : (c : goal.In_ok-push_cells) → c.deref.result.now ≡ flat c.goal-item.result
pushed c = c.deref.ensures.value ∙ (c.goal.invariant ∙ ap flat c.goal.view_is)

pub loop-goal-preserved : goal.loop-goal-preserved
loop-goal-preserved c =
    c.in_ok-push_cells.ensures.ok
    ∙ (ap (λ r. c.loop-goal.cells.items ++ r) (pushed c)
    ∙ (ap (λ r. r ++ flat c.goal-item.result) c.loop-goal.invariant
    ∙ sym (flat_all-more c.args.goals.now c.loop-goal.goal-index c.goal-item.result c.loop-goal-test.true c.goal-item.is)))
