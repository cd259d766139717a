use Rattle.std.proofs.Common.{◌≡◌, ◌∙◌, ℕ, Bool, true, sym, ap, subst, length, arith}
use Rattle.pi_engine_settle.specs.Due.{IsDueFor}
use Rattle.pi_engine_settle.specs.Settles.{LeftBy}
use Rattle.pi_engine_settle.proofs.SettlementLemmas.{none-due-stands}
use Rattle.pi_engine_arenas.specs.declared.run.Now.{Now}
use Rattle.pi_engine_arenas.specs.declared.run.Settling.{Settling}
use Rattle.pi_engine_stands.specs.Settling.{NextAfter, at_once, settled_first}
use Rattle.pi_engine_steps.proofs.settling.next_after.Goals as goal

pub returns-then-len-eq0 : goal.returns-then-len-eq0
returns-then-len-eq0 g c = λ before since left.
    let u = (g.S.StateStore.seen c.args.store.now).now.state in
    let so : c.args.one ≡ true = c.if-not-one.false in
    let by : LeftBy before u = left so in
    let due : IsDueFor before u c.in_ok-due.due = c.in_ok-due.ensures before since by.calm by.follows by.state in
    let none : length c.in_ok-due.due ≡ 0 = omega (arith, c.len.ensures, c.if-len-eq0.true) in
    let stands = none-due-stands before u c.in_ok-due.due by none due in
    subst (λ b. NextAfter b before u c.args.point (Now.Going c.args.point)) (sym so) (at_once stands.1 stands.0)

pub returns : goal.returns
returns g c = λ before since left.
    let u = (g.S.StateStore.seen c.args.store.now).now.state in
    let so : c.args.one ≡ true = c.if-not-one.false in
    let by : LeftBy before u = left so in
    let due : IsDueFor before u c.in_ok-due.due = c.in_ok-due.ensures before since by.calm by.follows by.state in
    let made = c.in_ok-settling.ensures.ok in
    subst (λ b. NextAfter b before u c.args.point (Now.Settling c.in_ok-settling.settling)) (sym so)
    (settled_first c.in_ok-settling.settling (ap (λ (s : Settling). s.point) made) (subst (λ (s : Settling). IsDueFor before u s.due) (sym made) due))
