use Rattle.std.proofs.lemmas.Result.{IfOk-weaker}
use Rattle.pi_core.specs.CoreTree.{pred_tree}
use Rattle.pi_rewrite_loops.specs.Helpers.{loop_of}
use Rattle.pi_rewrite_loops.proofs.TurnLemmas.{only-is}
use Rattle.pi_rewrite_loops.proofs.turns.only_turn_helper.Goals as goal

pub returns : goal.returns
returns c =
    IfOk-weaker c.loop_helper.result _ _ (λ made so. only-is (loop_of c.args.l.now) c.args.turn.items c.push_end.new.goals.items c.args.slots.now c.in_ok-body.body (pred_tree made) c.in_ok-push_end.ensures c.in_ok-body.ensures so) c.loop_helper.ensures
