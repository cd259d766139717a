use Rattle.std.proofs.Common.{arith, sym, ◌∙◌}
use Rattle.std.proofs.lemmas.Int.{ints}
use Rattle.pi_constraints.specs.Stored.{stored}
use Rattle.pi_label.proofs.ChoiceLemmas.{are-ends}
use Rattle.pi_queue.proofs.HeldLemmas.{first-at, last-at, nothing-left}
use Rattle.pi_lib_solve.proofs.values.ends.Goals as goal

pub returns-then-count-eq0-clause-ends : goal.returns-then-count-eq0-clause-ends
returns-then-count-eq0-clause-ends g c = nothing-left (stored (g.S.StateStore.seen c.args.s.now).now.state c.args.n) (sym c.span_count-count.ensures.count ∙ c.if-count-eq0.true)

pub returns-clause-ends : goal.returns-clause-ends
returns-clause-ends g c =
    let d = stored (g.S.StateStore.seen c.args.s.now).now.state c.args.n in
    let first = first-at d c.span_count-count.result c.span-first.result c.span_count-count.ensures.count c.if-count-eq0.false c.span-first.ensures in
    let last = last-at d c.span_count-count.result c.span-last.result c.span_count-count.ensures.count c.if-count-eq0.false c.span-last.ensures in
    are-ends d c.span-first.result c.span-last.result _ _ c.span_count-count.ensures.domain first last (λ b. omega (arith, ints, b.0, b.1)) (λ b. omega (arith, ints, b.0, b.1))
