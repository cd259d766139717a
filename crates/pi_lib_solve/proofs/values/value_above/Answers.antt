use Rattle.std.proofs.Common.{arith, sym, ◌≡◌, subst, ℤ, ◌≤ℤ◌, ◌<ℤ◌, to_z, of_z, w64}
use Rattle.std.proofs.lemmas.Int.{ints, to_z-of_z}
use Rattle.pi_constraints.specs.Stored.{stored}
use Rattle.pi_lib_solve.proofs.ValueLemmas.{there, above-none, above-some}
use Rattle.pi_lib_solve.proofs.values.value_above.Goals as goal

pub returns-in-Some-clause-next : goal.returns-in-Some-clause-next
returns-in-Some-clause-next g c =
    let d = stored (g.S.StateStore.seen c.args.s.now).now.state c.args.n in
    let is : to_z w64 (of_z w64 c.args.value) ≡ c.args.value = to_z-of_z w64 c.args.value c.ranges.value in
    let span = c.in-Some.span in
    let h = there d c.count_below-at.result span c.in-Some.ensures.domain (sym c.in-Some.ensures.span) in
    above-some d c.args.value _ (to_z w64 (of_z w64 c.after.result)) c.count_below-at.result c.in-Some.span c.in-Some.ensures.domain c.count_below-at.ensures (omega (arith, ints, c.from.ensures)) (sym c.in-Some.ensures.span)
    (λ lo hi.
    let made = c.after.ensures.inside (subst (λ (n : ℤ). span.lo ≤ℤ n) (sym is) lo) (subst (λ (n : ℤ). n <ℤ span.hi) (sym is) hi) in
    omega (arith, ints, made, is, hi, lo, h.high.1, h.low.0, c.from.ensures))
    (λ low.
    let made = c.after.ensures.above (subst (λ (n : ℤ). n <ℤ span.lo) (sym is) low) in
    omega (arith, ints, made, h.low.0, h.low.1))

pub returns-in-None-clause-next : goal.returns-in-None-clause-next
returns-in-None-clause-next g c =
    let d = stored (g.S.StateStore.seen c.args.s.now).now.state c.args.n in
    above-none d c.args.value _ c.count_below-at.result c.count_below-at.ensures (omega (arith, ints, c.from.ensures)) (sym c.in-None.ensures.span)
