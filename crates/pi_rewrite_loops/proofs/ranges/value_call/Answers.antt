use Rattle.std.proofs.lemmas.Result.{IfOk-weaker}
use Rattle.pi_rewrite_loops.specs.Helpers.{loop_of}
use Rattle.pi_rewrite_loops.proofs.StepLemmas.{value-call}
use Rattle.pi_rewrite_loops.proofs.ranges.value_call.Goals as goal

pub returns : goal.returns
returns c =
    IfOk-weaker c.call.result _ _ (λ made so first by behind. value-call (loop_of c.args.l.now) c.args.turn.now c.args.free c.args.step c.args.left c.in_ok-count.count c.saturating_sub.result c.new-args.result.items c.push_slot.new.terms.items c.push_slot-2.new.terms.items c.push_slot-3.new.terms.items c.push_slots.new.terms.items c.deref.result.now made c.in_ok-count.ensures c.saturating_sub.ensures c.new-args.ensures.items c.in_ok-push_slot.ensures c.in_ok-push_slot-2.ensures c.in_ok-push_slot-3.ensures c.in_ok-push_slots.ensures c.deref.ensures.value so first by behind) c.call.ensures.ok
