use Rattle.std.proofs.lemmas.Result.{IfOk-weaker}
use Rattle.pi_rewrite_loops.specs.Helpers.{loop_of}
use Rattle.pi_rewrite_loops.proofs.ArrayLemmas.{array-turn}
use Rattle.pi_rewrite_loops.proofs.walks.array_turn.Goals as goal

pub returns : goal.returns
returns c =
    IfOk-weaker c.in_turn.result _ _ (λ made so. array-turn (loop_of c.args.l.now) c.args.turn.now c.args.item c.in_ok-next.next c.new-goals.result.items c.push_tick.new.goals.items c.push_of_slots.new.goals.items c.push_with_one.new.goals.items c.push.new.self.items c.in_ok-call.call made c.in_ok-next.ensures c.new-goals.ensures.items c.in_ok-push_tick.ensures c.in_ok-push_of_slots.ensures c.in_ok-push_with_one.ensures c.in_ok-call.ensures c.in_ok-push.ensures.items so) c.in_turn.ensures
