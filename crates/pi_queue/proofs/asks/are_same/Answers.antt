use Rattle.std.proofs.Common.{arith}
use Rattle.pi_queue.proofs.AskedLemmas.{same-more, same-all}
use Rattle.pi_queue.proofs.asks.are_same.Goals as goal

pub loop-k-preserved : goal.loop-k-preserved
loop-k-preserved g c =
    let many = c.loop-k.invariant.0 in
    let inside = c.loop-k-test.true in
    let end = c.len-k-end.ensures.count in (
      many,
      same-more c.args.d.now c.args.e.now c.loop-k.k c.span.result c.span-in-loop-k.result many (omega (arith, inside, end)) (c.span.ensures (omega (arith, inside, end))) (c.span-in-loop-k.ensures (omega (arith, inside, end, many))) (c.is_same.ensures c.if-not-is_same.false) c.loop-k.invariant.1,
    )

pub returns : goal.returns
returns g c = λ t. same-all c.args.d.now c.args.e.now c.loop-k.k c.loop-k.invariant.0 (omega (arith, c.loop-k-test.false, c.len-k-end.ensures.count)) c.loop-k.invariant.1
