use Rattle.std.proofs.lemmas.Result.{IfOk-weaker}
use Rattle.pi_rewrite_loops.proofs.StepLemmas.{first-turn}
use Rattle.pi_rewrite_loops.proofs.ranges.first_turn.Goals as goal

pub returns : goal.returns
returns c =
    IfOk-weaker c.ticked_call.result _ _ (λ made so. first-turn c.args.turn.now c.args.count c.new-args.result.items c.push_slot.new.terms.items c.push_slots.new.terms.items c.deref.result.now made c.new-args.ensures.items c.in_ok-push_slot.ensures c.in_ok-push_slots.ensures c.deref.ensures.value so) c.ticked_call.ensures
