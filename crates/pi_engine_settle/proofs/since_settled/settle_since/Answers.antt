use Rattle.std.proofs.lemmas.Result.{IfOk-weaker}
use Rattle.std.proofs.Common.{sym, ◌∙◌}
use Rattle.pi_engine_settle.proofs.SettlementLemmas.{none-left, settles-as}
use Rattle.pi_engine_settle.proofs.since_settled.settle_since.Goals as goal

pub returns-then-len-eq0-clause-settles : goal.returns-then-len-eq0-clause-settles
returns-then-len-eq0-clause-settles g c = λ before since by.
    let s = (g.S.StateStore.seen c.args.store.now).now.state in
    none-left before s c.args.limit c.args.work.now c.in_ok-due.due by (sym c.len.ensures ∙ c.if-len-eq0.true) (c.in_ok-due.ensures before since by.calm by.follows by.state)

pub returns-clause-settles : goal.returns-clause-settles
returns-clause-settles g c =
    let s = (g.S.StateStore.seen c.args.store.now).now.state in
    let r = (g.S.StateStore.seen c.settle.new.store).now.state in
    IfOk-weaker c.settle.result _ _
    (λ settled comes. λ before since by.
    settles-as before s r c.in_ok-due.due c.args.limit c.args.work.now c.settle.new.work by settled (comes before (c.in_ok-due.ensures before since by.calm by.follows by.state) by.state by.settles))
    c.settle.ensures.comes
