use Rattle.pi_rewrite_loops.proofs.RangeLemmas.{first-args}
use Rattle.pi_rewrite_loops.proofs.ranges.first_args.Goals as goal

pub returns : goal.returns
returns c ns at =
    first-args c.args.range.now.low c.args.range.now.step c.args.range.now.high c.in_ok-first.first c.in_ok-by.by ns c.args.count c.in_ok-low.low c.in_ok-step.step c.new-args.result.items c.push.new.self.items c.push_slot.new.terms.items c.push-2.new.self.items c.in_ok-low.ensures c.in_ok-step.ensures c.new-args.ensures.items c.in_ok-first.ensures c.in_ok-push.ensures.items c.in_ok-push_slot.ensures c.in_ok-by.ensures c.in_ok-push-2.ensures.items at
