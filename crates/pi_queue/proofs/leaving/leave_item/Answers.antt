use Rattle.std.proofs.Common.{rules, ap, subst}
use Rattle.pi_constraints.specs.declared.constraint.Item.{Item}
use Rattle.pi_settling.specs.Roots.{root_item}
use Rattle.pi_queue.specs.Leaving.{IsLater}
use Rattle.pi_queue.proofs.TakeLemmas.{integer-takes-at, shown-takes}
use Rattle.pi_queue.proofs.leaving.leave_item.Goals as goal

pub returns-in-Int-clause-takes : goal.returns-in-Int-clause-takes
returns-in-Int-clause-takes g c = λ is later.
    let st = (g.S.StateStore.seen c.args.s.now).now.state in
    shown-takes st st (root_item st c.args.item) (Item.Int c.in-Int.n) c.args.left.now c.args.lost.now.items c.args.lost.now.items c.contains.result (ap (root_item st) c.in-Int.is)
    (integer-takes-at st c.args.left.now c.args.lost.now.items c.in-Int.n _ c.contains.result c.contains.ensures (search rules))

pub returns-in_ok-some-in-Var-clause-takes : goal.returns-in_ok-some-in-Var-clause-takes
returns-in_ok-some-in-Var-clause-takes g c = λ is later.
    let st = (g.S.StateStore.seen c.args.s.now).now.state in
    shown-takes st (g.S.StateStore.seen c.leave_variable.new.s).now.state (root_item st c.args.item) (root_item st (Item.Var c.in-Var.v)) c.args.left.now c.args.lost.now.items c.leave_variable.new.lost.items c.in_ok-some-in-Var.some (ap (root_item st) c.in-Var.is)
    (c.in_ok-some-in-Var.ensures.takes is (subst (IsLater st) c.in-Var.is later))
