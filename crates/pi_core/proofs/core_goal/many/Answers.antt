use Rattle.std.proofs.Common.{◌≡◌, sym, subst, ◌∙◌, IfOk}
use Rattle.pi_core.specs.GoalTree.{goals_of}
use Rattle.pi_core.specs.GoalCells.{over}
use Rattle.pi_core.proofs.GoalCells.{spells-all, spelled-all, count_goals-spelled}
use Rattle.pi_core.proofs.core_goal.many.Goals as goal

pub over-requires-clause-spells : goal.over-requires-clause-spells
over-requires-clause-spells c = spells-all (goals_of c.args.goals.now) _ c.in_ok-below.ensures.ok

pub over-requires-clause-has : goal.over-requires-clause-has
over-requires-clause-has c = count_goals-spelled c.args.goals.now _ c.in_ok-below.ensures.ok ∙ sym c.requires

pub returns : goal.returns
returns c =
    record {
      ok =
          subst (λ gs. IfOk c.over.result (λ made. made ≡ over c.args.kind gs))
          (spelled-all (goals_of c.args.goals.now) _ c.in_ok-below.ensures.ok)
          c.over.ensures.ok;
    }
