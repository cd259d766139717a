use Rattle.pi_constraints.specs.Store.{Confines}
use Rattle.pi_unify.proofs.BindLemmas.{on_ok, narrow_is, if_err}
use Rattle.pi_unify.proofs.KeepsLemmas.{keeps_then}
use Rattle.pi_unify.proofs.variables.narrow.Goals as goal

pub returns-clause-ok : goal.returns-clause-ok
returns-clause-ok g c =
    let v = g.S.StateStore.seen c.args.s.now in
    let w = g.S.StateStore.seen c.bind.new.self in
    let z = g.S.StateStore.seen c.set_domain.new.self in
    let a = c.args in
    on_ok c.set_domain.result (λ _. Confines w z a.low.at a.d.now) _ c.set_domain.ensures.ok
    (λ _ confines p two. narrow_is v w z a.low a.high a.d.now p.state p.low p.high p.less two c.in_ok-bind.ensures.keeps c.in_ok-bind.ensures.ok confines)

pub returns-in_err-bind-clause-keeps : goal.returns-in_err-bind-clause-keeps
returns-in_err-bind-clause-keeps g c = c.bind.ensures.keeps

pub returns-in_err-bind-clause-ok : goal.returns-in_err-bind-clause-ok
returns-in_err-bind-clause-ok g c = if_err c.from_residual.result _ c.from_residual.ensures.0

pub returns-clause-keeps : goal.returns-clause-keeps
returns-clause-keeps g c = keeps_then (g.S.StateStore.seen c.args.s.now) (g.S.StateStore.seen c.bind.new.self) (g.S.StateStore.seen c.set_domain.new.self) c.in_ok-bind.ensures.keeps c.set_domain.ensures.keeps
