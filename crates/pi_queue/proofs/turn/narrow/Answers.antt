use Rattle.pi_queue.proofs.LeaveLemmas.{itself}
use Rattle.pi_queue.proofs.FilterLemmas.{may-leave, told-narrows}
use Rattle.pi_queue.proofs.turn.narrow.Goals as goal

pub returns-then-not-is_within_limits-clause-narrower : goal.returns-then-not-is_within_limits-clause-narrower
returns-then-not-is_within_limits-clause-narrower g c = λ m. itself (g.S.StateStore.seen c.args.s.now).now.state m.state m.settles

pub returns-in_err-items-clause-narrower : goal.returns-in_err-items-clause-narrower
returns-in_err-items-clause-narrower g c = λ m. itself (g.S.StateStore.seen c.args.s.now).now.state m.state m.settles

pub returns-in_err-followed-clause-narrower : goal.returns-in_err-followed-clause-narrower
returns-in_err-followed-clause-narrower g c = λ m. itself (g.S.StateStore.seen c.args.s.now).now.state m.state m.settles

pub returns-in_err-told-clause-narrower : goal.returns-in_err-told-clause-narrower
returns-in_err-told-clause-narrower g c = λ m. itself (g.S.StateStore.seen c.args.s.now).now.state m.state m.settles

pub returns-in_err-some-clause-narrower : goal.returns-in_err-some-clause-narrower
returns-in_err-some-clause-narrower g c = λ m.
    let st = (g.S.StateStore.seen c.args.s.now).now.state in
    told-narrows st (g.S.StateStore.seen c.leave_all.new.s).now.state c.args.constraint.now c.as_slice-roots.result.now c.as_slice-2.result.now c.args.lost.now.items
    (may-leave st c.args.constraint.now c.args.lost.now.items c.in_ok-items.items.items c.as_slice.result.now c.in_ok-followed.followed.items c.as_slice-roots.result.now c.in_ok-told.told.items c.as_slice-2.result.now m c.in_ok-items.ensures c.as_slice.ensures.value c.in_ok-followed.ensures.roots c.as_slice-roots.ensures.value c.in_ok-told.ensures.filtered c.as_slice-2.ensures.value)
    c.leave_all.ensures.narrower

pub returns-clause-narrower : goal.returns-clause-narrower
returns-clause-narrower g c = λ m.
    let st = (g.S.StateStore.seen c.args.s.now).now.state in
    told-narrows st (g.S.StateStore.seen c.leave_all.new.s).now.state c.args.constraint.now c.as_slice-roots.result.now c.as_slice-2.result.now c.args.lost.now.items
    (may-leave st c.args.constraint.now c.args.lost.now.items c.in_ok-items.items.items c.as_slice.result.now c.in_ok-followed.followed.items c.as_slice-roots.result.now c.in_ok-told.told.items c.as_slice-2.result.now m c.in_ok-items.ensures c.as_slice.ensures.value c.in_ok-followed.ensures.roots c.as_slice-roots.ensures.value c.in_ok-told.ensures.filtered c.as_slice-2.ensures.value)
    c.leave_all.ensures.narrower

pub returns-clause-leaves : goal.returns-clause-leaves
returns-clause-leaves g c = λ m.
    let st = (g.S.StateStore.seen c.args.s.now).now.state in
    let h = may-leave st c.args.constraint.now c.args.lost.now.items c.in_ok-items.items.items c.as_slice.result.now c.in_ok-followed.followed.items c.as_slice-roots.result.now c.in_ok-told.told.items c.as_slice-2.result.now m c.in_ok-items.ensures c.as_slice.ensures.value c.in_ok-followed.ensures.roots c.as_slice-roots.ensures.value c.in_ok-told.ensures.filtered c.as_slice-2.ensures.value in
    c.in_ok-some.ensures.leaves c.args.constraint.now h.before h.left h.is_told h.may
