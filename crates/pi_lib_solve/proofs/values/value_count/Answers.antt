use Rattle.std.proofs.Common.{arith, refl, ◌+◌}
use Rattle.pi_constraints.specs.Domain.{values_of}
use Rattle.pi_constraints.specs.Stored.{stored}
use Rattle.pi_constraints.proofs.SizeLemmas.{size_of-take_fits}
use Rattle.pi_lib_solve.proofs.ValueLemmas.{there, count-more, count-all}
use Rattle.pi_lib_solve.proofs.values.value_count.Goals as goal

pub loop-k-init : goal.loop-k-init
unfolding values_of
loop-k-init g c = refl

pub width-count-requires : goal.width-count-requires
width-count-requires g c =
    let d = stored (g.S.StateStore.seen c.args.s.now).now.state c.args.n in
    let h = there d c.loop-k.k c.span.result c.span_count-end.ensures.domain (c.span.ensures (omega (arith, c.loop-k-test.true, c.span_count-end.ensures.count))) in
    record { ordered = h.ordered; low = h.low; high = h.high }

pub overflow_add-count : goal.overflow_add-count
overflow_add-count g c =
    let d = stored (g.S.StateStore.seen c.args.s.now).now.state c.args.n in
    let slot = c.span.ensures (omega (arith, c.loop-k-test.true, c.span_count-end.ensures.count)) in
    let more = count-more c.loop-k.count c.width-count.result c.loop-k.k d c.span.result c.span_count-end.ensures.domain c.loop-k.invariant c.width-count.ensures slot in
    let fits = size_of-take_fits d (c.loop-k.k + 1) c.span_count-end.ensures.domain in
    omega arith

pub loop-k-preserved : goal.loop-k-preserved
loop-k-preserved g c =
    let d = stored (g.S.StateStore.seen c.args.s.now).now.state c.args.n in
    let slot = c.span.ensures (omega (arith, c.loop-k-test.true, c.span_count-end.ensures.count)) in
    count-more c.loop-k.count c.width-count.result c.loop-k.k d c.span.result c.span_count-end.ensures.domain c.loop-k.invariant c.width-count.ensures slot

pub returns : goal.returns
returns g c =
    let d = stored (g.S.StateStore.seen c.args.s.now).now.state c.args.n in
    count-all c.loop-k.count c.loop-k.k d c.loop-k.invariant (omega (arith, c.loop-k-test.false, c.span_count-end.ensures.count))
