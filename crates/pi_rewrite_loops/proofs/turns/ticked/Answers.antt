use Rattle.std.proofs.lemmas.Result.{IfOk-weaker}
use Rattle.pi_rewrite_loops.proofs.TurnLemmas.{ticked-is}
use Rattle.pi_rewrite_loops.proofs.turns.ticked.Goals as goal

pub returns : goal.returns
returns c =
    IfOk-weaker c.in_turn.result _ _ (λ made so. ticked-is c.args.goals.items c.in_ok-turn.turn.items c.push.new.self.items c.args.last made c.in_ok-turn.ensures c.in_ok-push.ensures.items so) c.in_turn.ensures
