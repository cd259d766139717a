use Rattle.std.proofs.Common.{arith, sym, subst, ◌≡◌, ℤ, to_z, of_z}
use Rattle.std.specs.Int.{w128}
use Rattle.std.proofs.lemmas.Int.{ints}
use Rattle.pi_constraints.specs.Stored.{stored}
use Rattle.pi_lib_solve.proofs.ValueLemmas.{IsPoint, there, point-within, none-past, none-begins, below-inside, below-told}
use Rattle.pi_lib_solve.proofs.values.value_below.Goals as goal

pub returns-in_default-clause-next : goal.returns-in_default-clause-next
returns-in_default-clause-next g c =
    let d = stored (g.S.StateStore.seen c.args.s.now).now.state c.args.n in
    let at = c.count_below-at.result in
    let same : to_z w128 (of_z w128 c.from.result) ≡ c.args.value = omega (arith, ints, c.from.ensures, c.ranges.value) in
    let point = subst (λ (n : ℤ). IsPoint d n at) same c.count_below-at.ensures in
    below-told d c.args.value at c.end_before.result c.in_default.ensures.domain point (none-past d c.args.value at (sym c.in_default.ensures.span)) (point-within d c.args.value at point) c.end_before.ensures.first c.end_before.ensures.other

pub returns-then-span-value-clause-next : goal.returns-then-span-value-clause-next
returns-then-span-value-clause-next g c =
    let d = stored (g.S.StateStore.seen c.args.s.now).now.state c.args.n in
    let at = c.count_below-at.result in
    let same : to_z w128 (of_z w128 c.from.result) ≡ c.args.value = omega (arith, ints, c.from.ensures, c.ranges.value) in
    let point = subst (λ (n : ℤ). IsPoint d n at) same c.count_below-at.ensures in
    let slot = sym c.in-Some.ensures.span in
    let h = there d at c.in-Some.span c.in-Some.ensures.domain slot in
    below-inside d c.args.value _ at c.in-Some.span c.in-Some.ensures.domain point slot (omega (arith, ints, c.if-span-value.true, h.low.0, h.low.1)) (omega (arith, ints))

pub returns-clause-next : goal.returns-clause-next
returns-clause-next g c =
    let d = stored (g.S.StateStore.seen c.args.s.now).now.state c.args.n in
    let at = c.count_below-at.result in
    let same : to_z w128 (of_z w128 c.from.result) ≡ c.args.value = omega (arith, ints, c.from.ensures, c.ranges.value) in
    let point = subst (λ (n : ℤ). IsPoint d n at) same c.count_below-at.ensures in
    let slot = sym c.in-Some.ensures.span in
    let h = there d at c.in-Some.span c.in-Some.ensures.domain slot in
    below-told d c.args.value at c.end_before-2.result c.in-Some.ensures.domain point (none-begins d c.args.value at c.in-Some.span c.in-Some.ensures.domain slot (omega (arith, ints, c.if-span-value.false, h.low.0, h.low.1))) (point-within d c.args.value at point)
    c.end_before-2.ensures.first c.end_before-2.ensures.other
