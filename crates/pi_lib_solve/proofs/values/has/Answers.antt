use Rattle.std.proofs.Common.{arith, refl, sym, subst, ◌≡◌, ℤ, to_z, of_z, w64}
use Rattle.std.specs.Int.{w128}
use Rattle.std.proofs.lemmas.Int.{ints}
use Rattle.pi_constraints.specs.Stored.{stored}
use Rattle.pi_lib_solve.proofs.ValueLemmas.{IsPoint, there, has-at, has-none}
use Rattle.pi_lib_solve.proofs.values.has.Goals as goal

pub returns-in-Some-clause-has : goal.returns-in-Some-clause-has
returns-in-Some-clause-has g c =
    let d = stored (g.S.StateStore.seen c.args.s.now).now.state c.args.n in
    let slot = sym c.in-Some.ensures.span in
    let h = there d c.count_below-at.result c.in-Some.span c.in-Some.ensures.domain slot in
    let same : to_z w128 (of_z w128 c.from.result) ≡ c.args.value = omega (arith, ints, c.from.ensures, c.ranges.value) in
    let point = subst (λ (n : ℤ). IsPoint d n c.count_below-at.result) same c.count_below-at.ensures in
    has-at d c.args.value c.count_below-at.result c.in-Some.span (to_z w64 (of_z w64 c.in-Some.span.lo)) (to_z w64 (of_z w64 c.args.value)) _ c.in-Some.ensures.domain point slot (omega (arith, ints, h.low.0, h.low.1)) (omega (arith, ints, c.ranges.value)) refl

pub returns-in-None-clause-has : goal.returns-in-None-clause-has
returns-in-None-clause-has g c =
    let d = stored (g.S.StateStore.seen c.args.s.now).now.state c.args.n in
    let slot = sym c.in-None.ensures.span in
    let same : to_z w128 (of_z w128 c.from.result) ≡ c.args.value = omega (arith, ints, c.from.ensures, c.ranges.value) in
    let point = subst (λ (n : ℤ). IsPoint d n c.count_below-at.result) same c.count_below-at.ensures in
    has-none d c.args.value c.count_below-at.result point slot
