use Rattle.std.specs.Prelude.{refl}
use Rattle.std.proofs.Common.{arith, ◌≡◌, pos, ◌+ℤ◌, ◌≤ℤ◌, ◌<ℤ◌, to_z, of_z}
use Rattle.std.specs.Int.{w64}
use Rattle.std.proofs.lemmas.Int.{ints}
use Rattle.pi_agent.proofs.LossLemmas.{at-most, below, told-jump, told-lost, told-end, gap-falls}
use Rattle.pi_agent.proofs.losses.push_lost_between.Goals as goal

pub loop-from-smaller-in-Some : goal.loop-from-smaller-in-Some
loop-from-smaller-in-Some c =
    let hi : to_z w64 (of_z w64 c.args.span.hi) ≡ c.args.span.hi = omega (arith, ints, c.requires.high.0, c.requires.high.1) in
    let high : to_z w64 c.loop-from.from-bits ≤ℤ c.args.span.hi = at-most _ _ (to_z w64 c.loop-from.from-bits) c.args.span.hi c.loop-from-test.true refl hi in
    let next : to_z w64 (of_z w64 (to_z w64 (of_z w64 c.in-Some.end) +ℤ pos 1)) ≡ (c.in-Some.end +ℤ pos 1) = omega (arith, ints, c.in-Some.ensures.1.0, c.in-Some.ensures.1.1) in
    gap-falls (to_z w64 c.loop-from.from-bits) (to_z w64 (of_z w64 (to_z w64 (of_z w64 c.in-Some.end) +ℤ pos 1))) c.args.span.hi high (omega (arith, ints, next, c.in-Some.ensures.0))

pub loop-from-preserved-in-Some : goal.loop-from-preserved-in-Some
loop-from-preserved-in-Some c =
    let hi : to_z w64 (of_z w64 c.args.span.hi) ≡ c.args.span.hi = omega (arith, ints, c.requires.high.0, c.requires.high.1) in
    let high : to_z w64 c.loop-from.from-bits ≤ℤ c.args.span.hi = at-most _ _ (to_z w64 c.loop-from.from-bits) c.args.span.hi c.loop-from-test.true refl hi in
    let next : to_z w64 (of_z w64 (to_z w64 (of_z w64 c.in-Some.end) +ℤ pos 1)) ≡ (c.in-Some.end +ℤ pos 1) = omega (arith, ints, c.in-Some.ensures.1.0, c.in-Some.ensures.1.1) in (
      told-jump c.args.v c.args.ends c.args.new.now c.args.span.lo c.args.span.hi c.args.events.now c.loop-from.events (to_z w64 c.loop-from.from-bits) c.in-Some.end _ next high c.in-Some.ensures.0 c.in-Some.ensures.2 c.loop-from.invariant.0,
      omega (arith, ints, next, c.in-Some.ensures.1.0),
      omega (arith, ints, next, c.in-Some.ensures.1.1),
    )

pub loop-from-smaller : goal.loop-from-smaller
loop-from-smaller c =
    let hi : to_z w64 (of_z w64 c.args.span.hi) ≡ c.args.span.hi = omega (arith, ints, c.requires.high.0, c.requires.high.1) in
    let high : to_z w64 c.loop-from.from-bits ≤ℤ c.args.span.hi = at-most _ _ (to_z w64 c.loop-from.from-bits) c.args.span.hi c.loop-from-test.true refl hi in
    let next : to_z w64 (of_z w64 (to_z w64 c.loop-from.from-bits +ℤ pos 1)) ≡ (to_z w64 c.loop-from.from-bits +ℤ pos 1) = omega (arith, ints, high, c.requires.high.1, c.loop-from.invariant.1) in
    gap-falls (to_z w64 c.loop-from.from-bits) (to_z w64 (of_z w64 (to_z w64 c.loop-from.from-bits +ℤ pos 1))) c.args.span.hi high (omega (arith, ints, next))

pub loop-from-preserved : goal.loop-from-preserved
loop-from-preserved c =
    let hi : to_z w64 (of_z w64 c.args.span.hi) ≡ c.args.span.hi = omega (arith, ints, c.requires.high.0, c.requires.high.1) in
    let high : to_z w64 c.loop-from.from-bits ≤ℤ c.args.span.hi = at-most _ _ (to_z w64 c.loop-from.from-bits) c.args.span.hi c.loop-from-test.true refl hi in
    let next : to_z w64 (of_z w64 (to_z w64 c.loop-from.from-bits +ℤ pos 1)) ≡ (to_z w64 c.loop-from.from-bits +ℤ pos 1) = omega (arith, ints, high, c.requires.high.1, c.loop-from.invariant.1) in (
      told-lost c.args.v c.args.ends c.args.new.now c.args.span.lo c.args.span.hi c.args.events.now c.loop-from.events c.push.new.self (to_z w64 c.loop-from.from-bits) _ c.is_between-inner.result next high c.in-None.ensures c.is_between-inner.ensures c.in_ok-push-in-None.ensures.ok c.loop-from.invariant.0,
      omega (arith, ints, next, c.loop-from.invariant.1),
      omega (arith, ints, next, high, c.requires.high.1),
    )

pub returns : goal.returns
returns c =
    let hi : to_z w64 (of_z w64 c.args.span.hi) ≡ c.args.span.hi = omega (arith, ints, c.requires.high.0, c.requires.high.1) in
    let past : c.args.span.hi <ℤ to_z w64 c.loop-from.from-bits = below _ _ (to_z w64 c.loop-from.from-bits) c.args.span.hi c.loop-from-test.false refl hi in
    told-end c.args.v c.args.ends c.args.new.now c.args.span.lo c.args.span.hi c.args.events.now c.loop-from.events (to_z w64 c.loop-from.from-bits) past c.loop-from.invariant.0
