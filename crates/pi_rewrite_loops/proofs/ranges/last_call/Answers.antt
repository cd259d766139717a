use Rattle.std.proofs.lemmas.Result.{IfOk-weaker}
use Rattle.pi_rewrite_loops.specs.Helpers.{loop_of}
use Rattle.pi_rewrite_loops.proofs.StepLemmas.{last-call}
use Rattle.pi_rewrite_loops.proofs.ranges.last_call.Goals as goal

pub returns : goal.returns
returns c =
    IfOk-weaker c.call.result _ _ (λ made so. last-call (loop_of c.args.l.now) c.as_str.result.now c.args.first c.in_ok-step.step c.in_ok-count.count c.saturating_sub.result c.new-args.result.items c.push_slot.new.terms.items c.push.new.self.items c.push_slots.new.terms.items c.deref.result.now c.in_ok-none.none made c.in_ok-count.ensures c.in_ok-step.ensures c.saturating_sub.ensures c.in_ok-none.ensures.ok c.new-args.ensures.items c.in_ok-push_slot.ensures c.in_ok-push.ensures.items c.in_ok-push_slots.ensures c.deref.ensures.value c.as_str.ensures so) c.call.ensures.ok
