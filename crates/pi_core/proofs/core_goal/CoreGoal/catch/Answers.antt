use Rattle.std.proofs.Common.{◌≡◌, [], ◌∷◌, subst, IfOk}
use Rattle.pi_core.specs.GoalTree.{goals_of, goal_at}
use Rattle.pi_core.specs.GoalCells.{over}
use Rattle.pi_core.specs.declared.goal_node.GoalKind.TheVariants.{Catch}
use Rattle.pi_core.proofs.GoalCells.{two-below, spells-all, spelled-all, count_goals-spelled}
use Rattle.pi_core.proofs.core_goal.CoreGoal.catch.Goals as goal

pub over-requires-clause-spells : goal.over-requires-clause-spells
over-requires-clause-spells c = spells-all (goals_of (c.args.goal ∷ c.args.handler ∷ [])) _ (two-below _ _ _ _ _ c.new-below.ensures.items c.in_ok-move_cells.ensures.ok c.in_ok-move_cells-2.ensures.ok)

pub over-requires-clause-has : goal.over-requires-clause-has
over-requires-clause-has c = count_goals-spelled (c.args.goal ∷ c.args.handler ∷ []) _ (two-below _ _ _ _ _ c.new-below.ensures.items c.in_ok-move_cells.ensures.ok c.in_ok-move_cells-2.ensures.ok)

pub returns : goal.returns
unfolding goal_at
returns c =
    record {
      ok =
          subst (λ t. IfOk c.over.result (λ made. made ≡ over (Catch t) (goals_of (c.args.goal ∷ c.args.handler ∷ [])))) c.in_ok-copy.ensures.ok
          (subst (λ gs. IfOk c.over.result (λ made. made ≡ over (Catch c.in_ok-copy.field-0) gs))
          (spelled-all (goals_of (c.args.goal ∷ c.args.handler ∷ [])) _ (two-below _ _ _ _ _ c.new-below.ensures.items c.in_ok-move_cells.ensures.ok c.in_ok-move_cells-2.ensures.ok))
          c.over.ensures.ok);
    }
