use Rattle.std.proofs.Common.{sym, ◌∙◌}
use Rattle.pi_lib_constraints.specs.Kept.{item_term}
use Rattle.pi_lib_solve.proofs.PickLemmas.{other-none, free-none, one-pending}
use Rattle.pi_lib_solve.proofs.places.pending.Goals as goal

pub returns-in_default : goal.returns-in_default
returns-in_default g c = λ x is at.
    let v = g.S.StateStore.seen c.args.s.now in
    other-none v v.now.state x c.look.result (c.look.ensures.shows (item_term x) at is.acyclic) c.in_default.not-Var

pub returns-then-span_count-eq0 : goal.returns-then-span_count-eq0
returns-then-span_count-eq0 g c = λ x is at.
    let v = g.S.StateStore.seen c.args.s.now in
    free-none v.now.state x c.in-Var.n is (c.in-Var.ensures.shows (item_term x) at is.acyclic) (sym c.span_count.ensures.count ∙ c.if-span_count-eq0.true)

pub returns : goal.returns
returns g c = λ x is at.
    let v = g.S.StateStore.seen c.args.s.now in
    one-pending v.now.state x c.in-Var.n (c.in-Var.ensures.shows (item_term x) at is.acyclic) (λ none. c.if-span_count-eq0.false (c.span_count.ensures.count ∙ none))
