use Rattle.std.proofs.lemmas.Result.{IfOk-weaker}
use Rattle.pi_core.specs.CoreTree.{pred_tree}
use Rattle.pi_rewrite_loops.specs.Helpers.{loop_of}
use Rattle.pi_rewrite_loops.proofs.TurnLemmas.{while-is}
use Rattle.pi_rewrite_loops.proofs.turns.while_helper.Goals as goal

pub returns : goal.returns
returns c =
    IfOk-weaker c.loop_helper.result _ _ (λ made so. while-is (loop_of c.args.l.now) c.args.test.items c.args.body.items c.args.slots.now c.in_ok-turn.turn c.in_ok-choice.choice (pred_tree made) c.in_ok-turn.ensures c.in_ok-choice.ensures so) c.loop_helper.ensures
