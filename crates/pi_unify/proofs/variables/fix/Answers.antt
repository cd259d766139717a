use Rattle.std.proofs.Common.{rules}
use Rattle.pi_constraints.specs.Store.{Binds}
use Rattle.pi_unify.proofs.BindLemmas.{on_ok, fix_is, if_err}
use Rattle.pi_unify.proofs.KeepsLemmas.{keeps_then}
use Rattle.pi_unify.proofs.variables.fix.Goals as goal

pub returns-clause-ok : goal.returns-clause-ok
returns-clause-ok g c =
    let v = g.S.StateStore.seen c.args.s.now in
    let w = g.S.StateStore.seen c.bind.new.self in
    let y = g.S.StateStore.seen c.put_int.new.self in
    let z = g.S.StateStore.seen c.bind-2.new.self in
    let a = c.args in
    let r = c.in_ok-value.value in
    on_ok c.bind-2.result (λ _. Binds y z a.low.at r) _ c.bind-2.ensures.ok
    (λ _ fixes p. fix_is v w y z a.low a.high r _ a.n p.state p.low p.high p.less c.in_ok-bind.ensures.keeps c.in_ok-bind.ensures.ok c.in_ok-value.ensures.ok fixes (search rules))

pub returns-in_err-bind-clause-keeps : goal.returns-in_err-bind-clause-keeps
returns-in_err-bind-clause-keeps g c = c.bind.ensures.keeps

pub returns-in_err-bind-clause-ok : goal.returns-in_err-bind-clause-ok
returns-in_err-bind-clause-ok g c = if_err c.from_residual.result _ c.from_residual.ensures.0

pub returns-in_err-value-clause-keeps : goal.returns-in_err-value-clause-keeps
returns-in_err-value-clause-keeps g c = keeps_then (g.S.StateStore.seen c.args.s.now) (g.S.StateStore.seen c.bind.new.self) (g.S.StateStore.seen c.put_int.new.self) c.in_ok-bind.ensures.keeps c.in_err-value.ensures.err.keeps

pub returns-in_err-value-clause-ok : goal.returns-in_err-value-clause-ok
returns-in_err-value-clause-ok g c = if_err c.from_residual-in_err-value.result _ c.from_residual-in_err-value.ensures.0

pub returns-clause-keeps : goal.returns-clause-keeps
returns-clause-keeps g c =
    let v = g.S.StateStore.seen c.args.s.now in
    let w = g.S.StateStore.seen c.bind.new.self in
    let y = g.S.StateStore.seen c.put_int.new.self in
    let z = g.S.StateStore.seen c.bind-2.new.self in
    keeps_then v y z (keeps_then v w y c.in_ok-bind.ensures.keeps c.in_ok-value.ensures.ok.changes.keeps) c.bind-2.ensures.keeps
