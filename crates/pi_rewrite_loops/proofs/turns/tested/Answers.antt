use Rattle.std.proofs.lemmas.Result.{IfOk-weaker}
use Rattle.pi_rewrite_loops.specs.Helpers.{loop_of}
use Rattle.pi_rewrite_loops.proofs.TurnLemmas.{tested-is}
use Rattle.pi_rewrite_loops.proofs.turns.tested.Goals as goal

pub returns : goal.returns
returns c =
    IfOk-weaker c.if_else.result _ _ (λ made so. tested-is (loop_of c.args.l.now) c.args.test.items c.args.slots.now c.in_ok-test.test c.args.turn c.in_ok-other.other made c.in_ok-test.ensures c.in_ok-other.ensures so) c.if_else.ensures.ok
