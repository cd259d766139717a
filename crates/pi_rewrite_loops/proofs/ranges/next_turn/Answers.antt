use Rattle.std.proofs.lemmas.Result.{IfOk-weaker}
use Rattle.pi_rewrite_loops.specs.Helpers.{loop_of}
use Rattle.pi_rewrite_loops.proofs.StepLemmas.{next-turn}
use Rattle.pi_rewrite_loops.proofs.ranges.next_turn.Goals as goal

pub returns : goal.returns
returns c =
    IfOk-weaker c.if_else.result _ _ (λ made so. next-turn (loop_of c.args.l.now) c.args.turn.now c.args.first c.args.free c.in_ok-count.count c.in_ok-test.test c.in_ok-then.then c.in_ok-other.other made c.in_ok-count.ensures c.in_ok-test.ensures c.in_ok-then.ensures c.in_ok-other.ensures so) c.if_else.ensures.ok
