use Rattle.std.proofs.Common.{arith, subst, ◌≡◌, ℤ, true, false, to_z, of_z}
use Rattle.std.specs.Prelude.{int_lt}
use Rattle.std.specs.Int.{w128}
use Rattle.std.specs.List.Sorted.{IsPartitionPoint}
use Rattle.std.proofs.lemmas.Int.{ints}
use Rattle.pi_constraints.specs.declared.domain.Span.{Span}
use Rattle.pi_constraints.specs.Stored.{stored}
use Rattle.pi_queue.proofs.HeldLemmas.{lies-first, lies-above, lies-below, lies-there}
use Rattle.pi_lib_solve.proofs.values.count_below.Goals as goal

pub loop-low-init : goal.loop-low-init
loop-low-init g c = lies-first (stored (g.S.StateStore.seen c.args.s.now).now.state c.args.n) _ c.span_count-end.result c.span_count-end.ensures.count

pub loop-low-preserved-then-ends_below : goal.loop-low-preserved-then-ends_below
loop-low-preserved-then-ends_below g c =
    let d = stored (g.S.StateStore.seen c.args.s.now).now.state c.args.n in
    let h = c.loop-low.invariant in
    let o = h.order in
    let i = h.inside in
    lies-above d _ c.loop-low.low c.loop-low.high _ c.span.result c.ends_below.result c.span_count-end.ensures.domain (omega arith) (omega (arith, c.loop-low-test.true)) (c.span.ensures (omega (arith, i, c.loop-low-test.true))) c.ends_below.ensures c.if-ends_below.true h

pub loop-low-preserved : goal.loop-low-preserved
loop-low-preserved g c =
    let d = stored (g.S.StateStore.seen c.args.s.now).now.state c.args.n in
    let h = c.loop-low.invariant in
    let o = h.order in
    let i = h.inside in
    lies-below d _ c.loop-low.low c.loop-low.high _ c.span.result c.ends_below.result c.span_count-end.ensures.domain (omega arith) (omega (arith, c.loop-low-test.true)) (c.span.ensures (omega (arith, i, c.loop-low-test.true))) c.ends_below.ensures c.if-ends_below.false h

pub returns : goal.returns
returns g c =
    let d = stored (g.S.StateStore.seen c.args.s.now).now.state c.args.n in
    let n-is : to_z w128 (of_z w128 c.args.value) ≡ c.args.value = omega (arith, ints) in
    subst (λ (n : ℤ). IsPartitionPoint (λ (s : Span). int_lt s.hi n ≡ true) (λ (s : Span). int_lt s.hi n ≡ false) d c.loop-low.low) n-is (lies-there d _ c.loop-low.low c.loop-low.high c.loop-low-test.false c.loop-low.invariant)
