use Rattle.std.proofs.Common.{sym, subst}
use Rattle.std.proofs.lemmas.Result.{IfOk-weaker}
use Rattle.pi_engine_settle.specs.Due.{IsDueFor}
use Rattle.pi_engine_settle.proofs.AddLemmas.{due-by}
use Rattle.pi_engine_settle.proofs.DueLemmas.{due-none}
use Rattle.pi_engine_settle.proofs.MarkLemmas.{none-posted}
use Rattle.pi_engine_settle.proofs.since.due_since.Goals as goal

pub returns-then-end-eq0 : goal.returns-then-end-eq0
returns-then-end-eq0 g c = λ before since calm f is.
    let s = (g.S.StateStore.seen c.args.store.now).now.state in
    subst (IsDueFor before s) (sym c.new.ensures) (due-none before s (none-posted s.constraints c.constraints-end.result c.constraints-end.ensures c.if-end-eq0.true))

pub returns : goal.returns
returns g c = IfOk-weaker c.take_all.result _ _ (λ all so before since calm f is.
    let v = g.S.StateStore.seen c.args.store.now in
    subst (IsDueFor before v.now.state) (sym so)
    (due-by v c.args.since.now before c.in_ok-first.first c.constraints-end.result c.new-due.result c.add_changed.new.due c.add_from.new.due c.new-due.ensures (c.in_ok-first.ensures before) c.constraints-end.ensures c.in_ok-add_from.ensures since calm f is))
    c.take_all.ensures
