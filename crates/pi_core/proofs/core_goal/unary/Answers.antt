use Rattle.std.proofs.Common.{◌≡◌, [], ◌∷◌, sym, subst, ◌∙◌, IfOk}
use Rattle.pi_core.specs.GoalTree.{goals_of}
use Rattle.pi_core.specs.GoalCells.{over}
use Rattle.pi_core.proofs.GoalCells.{one-below, spells-all, spelled-all, count_goals-spelled}
use Rattle.pi_core.proofs.core_goal.unary.Goals as goal

pub over-requires-clause-spells : goal.over-requires-clause-spells
over-requires-clause-spells c =
    spells-all (goals_of (c.args.goal ∷ [])) _ (one-below _ _ _ c.new-below.ensures.items c.in_ok-move_cells.ensures.ok)

pub over-requires-clause-has : goal.over-requires-clause-has
over-requires-clause-has c =
    count_goals-spelled (c.args.goal ∷ []) _ (one-below _ _ _ c.new-below.ensures.items c.in_ok-move_cells.ensures.ok)
    ∙ sym c.requires

pub returns : goal.returns
returns c =
    record {
      ok = subst (λ gs. IfOk c.over.result (λ made. made ≡ over c.args.kind gs))
          (spelled-all (goals_of (c.args.goal ∷ [])) _ (one-below _ _ _ c.new-below.ensures.items c.in_ok-move_cells.ensures.ok))
          c.over.ensures.ok;
    }
