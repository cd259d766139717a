use Rattle.std.proofs.Common.{arith, refl, inl, inr}
use Rattle.pi_prop_places.proofs.AskLemmas.{shared_first, shared_over}
use Rattle.pi_queue.proofs.AskedLemmas.{not-before, shared-on, shared-off, shared-both}
use Rattle.pi_queue.proofs.asks.share.Goals as goal

pub loop-i-init : goal.loop-i-init
loop-i-init g c = shared_first c.args.d.now c.args.e.now

pub loop-i-preserved-then-before : goal.loop-i-preserved-then-before
loop-i-preserved-then-before g c =
    shared-on c.args.d.now c.args.e.now c.loop-i.i c.loop-i.j c.span-one.result c.span-other.result c.len-in-loop-i.ensures.domain (omega (arith, c.loop-i-test.true, c.len.ensures.count)) (omega (arith, c.if-j-len.true, c.len-in-loop-i.ensures.count))
    (c.span-one.ensures (omega (arith, c.loop-i-test.true, c.len.ensures.count))) (c.span-other.ensures (omega (arith, c.if-j-len.true, c.len-in-loop-i.ensures.count))) (c.lies_before-before.ensures.0 c.if-before.true) c.loop-i.invariant

pub loop-i-preserved : goal.loop-i-preserved
loop-i-preserved g c =
    shared-off c.args.d.now c.args.e.now c.loop-i.i c.loop-i.j c.span-one.result c.span-other.result c.len.ensures.domain (omega (arith, c.loop-i-test.true, c.len.ensures.count)) (omega (arith, c.if-j-len.true, c.len-in-loop-i.ensures.count))
    (c.span-one.ensures (omega (arith, c.loop-i-test.true, c.len.ensures.count))) (c.span-other.ensures (omega (arith, c.if-j-len.true, c.len-in-loop-i.ensures.count))) (c.lies_before-behind.ensures.0 c.if-behind.true) c.loop-i.invariant

pub returns-else-behind : goal.returns-else-behind
returns-else-behind g c = (
  λ t. shared-both c.args.d.now c.args.e.now c.loop-i.i c.loop-i.j c.span-one.result c.span-other.result c.len.ensures.domain c.len-in-loop-i.ensures.domain (omega (arith, c.loop-i-test.true, c.len.ensures.count)) (omega (arith, c.if-j-len.true, c.len-in-loop-i.ensures.count))
      (c.span-one.ensures (omega (arith, c.loop-i-test.true, c.len.ensures.count))) (c.span-other.ensures (omega (arith, c.if-j-len.true, c.len-in-loop-i.ensures.count)))
      (not-before c.span-one.result.hi c.span-other.result.lo c.lies_before-before.result c.lies_before-before.ensures c.if-before.false) (not-before c.span-other.result.hi c.span-one.result.lo c.lies_before-behind.result c.lies_before-behind.ensures c.if-behind.false),
  λ h. refl,
)

pub returns-else-j-len : goal.returns-else-j-len
returns-else-j-len g c = (λ t. absurd (cc), λ h. absurd (shared_over c.args.d.now c.args.e.now c.loop-i.i c.loop-i.j (inr (omega (arith, c.if-j-len.false, c.len-in-loop-i.ensures.count))) c.loop-i.invariant h))

pub returns-after-loop-i : goal.returns-after-loop-i
returns-after-loop-i g c = (λ t. absurd (cc), λ h. absurd (shared_over c.args.d.now c.args.e.now c.loop-i.i c.loop-i.j (inl (omega (arith, c.loop-i-test.false, c.len.ensures.count))) c.loop-i.invariant h))
