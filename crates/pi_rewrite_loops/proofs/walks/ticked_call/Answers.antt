use Rattle.std.proofs.lemmas.Result.{IfOk-weaker}
use Rattle.pi_rewrite_loops.proofs.WalkLemmas.{ticked-call}
use Rattle.pi_rewrite_loops.proofs.walks.ticked_call.Goals as goal

pub returns : goal.returns
returns c =
    IfOk-weaker c.in_turn.result _ _ (λ made so. ticked-call c.in_ok-call.call _ made c.new-goals.result.items c.push_tick.new.goals.items c.push.new.self.items c.new-goals.ensures.items c.in_ok-push_tick.ensures c.in_ok-call.ensures.ok c.in_ok-push.ensures.items so) c.in_turn.ensures
