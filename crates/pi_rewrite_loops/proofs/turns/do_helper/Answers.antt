use Rattle.std.proofs.lemmas.Result.{IfOk-weaker}
use Rattle.pi_core.specs.CoreTree.{pred_tree}
use Rattle.pi_rewrite_loops.specs.Helpers.{loop_of}
use Rattle.pi_rewrite_loops.proofs.TurnLemmas.{do-is}
use Rattle.pi_rewrite_loops.proofs.turns.do_helper.Goals as goal

pub returns : goal.returns
returns c =
    IfOk-weaker c.loop_helper.result _ _ (λ made so. do-is (loop_of c.args.l.now) c.args.body.items c.args.test.items c.args.slots.now c.in_ok-turn.turn c.in_ok-choice.choice (pred_tree made) c.in_ok-choice.ensures c.in_ok-turn.ensures so) c.loop_helper.ensures
