use Rattle.pi_rewrite_sound.proofs.GoalNames.{goal-by}
use Rattle.pi_rewrite_sound.proofs.names.is_constraint_goal.Goals as goal

pub returns : goal.returns
returns c =
    goal-by c.args.name.now c.args.count c.is_boolean_sign.result c.eq.result c.eq-2.result c.eq-3.result c.eq-4.result c.eq-5.result c.is_boolean_sign.ensures c.eq.ensures c.eq-2.ensures c.eq-3.ensures c.eq-4.ensures
    c.eq-5.ensures
