use Rattle.pi_engine_settle.proofs.MarkLemmas.{since-marked, none-posted}
use Rattle.pi_engine_settle.proofs.since.begin.Goals as goal

pub returns-then-constraints-eq0-clause-since : goal.returns-then-constraints-eq0-clause-since
returns-then-constraints-eq0-clause-since g c =
    none-posted (g.S.StateStore.seen c.args.store.now).now.state.constraints c.constraints-constraints.result c.constraints-constraints.ensures c.if-constraints-eq0.true

pub returns-clause-since : goal.returns-clause-since
returns-clause-since g c =
    since-marked g.S.StateStore.order (g.S.StateStore.seen c.args.store.now) (g.S.StateStore.seen c.mark.new.self) (record { mark = c.in_ok-mark.mark; constraints = c.constraints-constraints.result }) c.in_ok-mark.ensures.ok c.constraints-constraints.ensures
