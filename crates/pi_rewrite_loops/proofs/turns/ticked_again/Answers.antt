use Rattle.std.proofs.lemmas.Result.{IfOk-weaker}
use Rattle.pi_rewrite_loops.specs.Helpers.{loop_of}
use Rattle.pi_rewrite_loops.proofs.TurnLemmas.{ticked-again}
use Rattle.pi_rewrite_loops.proofs.turns.ticked_again.Goals as goal

pub returns : goal.returns
returns c =
    IfOk-weaker c.ticked.result _ _ (λ made so. ticked-again (loop_of c.args.l.now) c.args.goals.items c.in_ok-next.next made c.in_ok-next.ensures so) c.ticked.ensures
