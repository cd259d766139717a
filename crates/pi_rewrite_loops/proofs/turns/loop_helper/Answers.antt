use Rattle.std.proofs.lemmas.Result.{IfOk-weaker}
use Rattle.pi_core.specs.CoreTree.{pred_tree}
use Rattle.pi_rewrite_loops.specs.Helpers.{loop_of}
use Rattle.pi_rewrite_loops.proofs.TurnLemmas.{helped-is}
use Rattle.pi_rewrite_loops.proofs.turns.loop_helper.Goals as goal

pub returns : goal.returns
returns c =
    IfOk-weaker c.simple_helper.result _ _ (λ made so. helped-is (loop_of c.args.l.now) c.args.slots.now c.in_ok-count.count c.in_ok-free.free c.in_ok-size.size c.as_str.result.now c.args.body (pred_tree made) c.in_ok-count.ensures c.in_ok-free.ensures c.in_ok-size.ensures c.as_str.ensures so) c.simple_helper.ensures
