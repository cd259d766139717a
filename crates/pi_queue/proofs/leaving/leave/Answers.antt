use Rattle.pi_settling.specs.Roots.{root_item}
use Rattle.pi_queue.proofs.TakeLemmas.{unchanged, shown-told}
use Rattle.pi_queue.proofs.leaving.leave.Goals as goal

pub returns-in-None-clause-takes : goal.returns-in-None-clause-takes
returns-in-None-clause-takes g c = λ before left is state may. unchanged (g.S.StateStore.seen c.args.s.now).now.state c.args.item before left c.args.told.now c.args.lost.now.items is c.in-None.is may

pub returns-in_ok-some-in-Some-clause-takes : goal.returns-in_ok-some-in-Some-clause-takes
returns-in_ok-some-in-Some-clause-takes g c = λ before left is state may.
    let st = (g.S.StateStore.seen c.args.s.now).now.state in
    shown-told st (g.S.StateStore.seen c.leave_item.new.s).now.state before left c.in-Some.left c.args.told.now c.args.lost.now.items c.leave_item.new.lost.items (root_item st c.args.item) c.in_ok-some-in-Some.some is c.in-Some.is (c.in_ok-some-in-Some.ensures.takes state may.later)
