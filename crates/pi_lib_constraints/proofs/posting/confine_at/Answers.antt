use Rattle.std.proofs.Common.{arith}
use Rattle.pi_unify.proofs.KeepsLemmas.{keeps_none}
use Rattle.pi_lib_constraints.specs.Kept.{item_term}
use Rattle.pi_lib_constraints.proofs.PostLemmas.{item-stays, filled-item, item-given}
use Rattle.pi_lib_constraints.proofs.posting.confine_at.Goals as goal

pub returns-in_default : goal.returns-in_default
returns-in_default g c =
    let v = g.S.StateStore.seen c.args.s.now in
    record { keeps = keeps_none v; ok = λ x is e at. item-stays v v.now.state x c.look.result (c.look.ensures.shows (item_term x) at is.acyclic) c.in_default.not-Var }

pub returns-then-span_count-gt0 : goal.returns-then-span_count-gt0
returns-then-span_count-gt0 g c =
    let v = g.S.StateStore.seen c.args.s.now in
    record { keeps = keeps_none v; ok = λ x is e at. filled-item v.now.state x c.in-Var.n (c.in-Var.ensures.shows (item_term x) at is.acyclic) (omega (arith, c.span_count.ensures.count, c.if-span_count-gt0.true)) }

pub returns-clause-ok : goal.returns-clause-ok
returns-clause-ok g c = λ x is e at.
    let v = g.S.StateStore.seen c.args.s.now in
    item-given v (g.S.StateStore.seen c.set_domain.new.self) c.args.at x c.in-Var.n c.args.default.now is e at (c.look.ensures.below c.args.at (item_term x) at) (c.in-Var.ensures.shows (item_term x) at is.acyclic)
    (omega (arith, c.span_count.ensures.count, c.if-span_count-gt0.false)) c.in_ok-set_domain.ensures.ok
