use Rattle.std.proofs.Common.{arith}
use Rattle.pi_queue.proofs.HeldLemmas.{put-more}
use Rattle.pi_queue.proofs.held.Held.push_spans.Goals as goal

pub loop-k-preserved : goal.loop-k-preserved
loop-k-preserved g c =
    put-more c.loop-k.spans.items c.push.new.self.items c.args.spans.now.items c.args.self.now c.loop-k.k c.span-span.result (omega (arith, c.loop-k-test.true, c.len-k-end.ensures.count)) (c.span-span.ensures (omega (arith, c.loop-k-test.true, c.len-k-end.ensures.count))) c.in_ok-push.ensures.items c.loop-k.invariant
