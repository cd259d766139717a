use Rattle.std.proofs.lemmas.Result.{IfOk-weaker}
use Rattle.pi_rewrite_loops.specs.Helpers.{loop_of}
use Rattle.pi_rewrite_loops.proofs.TurnLemmas.{tested-again}
use Rattle.pi_rewrite_loops.proofs.turns.tested_again.Goals as goal

pub returns : goal.returns
returns c =
    IfOk-weaker c.tested.result _ _ (λ made so. tested-again (loop_of c.args.l.now) c.args.test.items c.args.slots.now c.in_ok-next.next made c.in_ok-next.ensures so) c.tested.ensures
