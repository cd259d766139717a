use Rattle.std.proofs.Common.{◌≡◌, ◌<◌, ◌-◌, suc, subst, arith}
use Rattle.pi_terms.specs.Tree.{arity}
use Rattle.pi_unify.specs.Terms.{value_of}
use Rattle.pi_unify.proofs.TermValues.{argument}
use Rattle.pi_lib_builtin.proofs.ClosedLemmas.{LeavesFrom, leaves-none, leaves-more, leaves-all}
use Rattle.pi_lib_builtin.proofs.closed.leave_arguments.Goals as goal

pub loop-i-init : goal.loop-i-init
loop-i-init g c = (omega arith, λ a given many gs. leaves-none (g.S.StateStore.seen c.args.s.now) c.args.at c.args.count c.args.left.now.items many gs)

pub loop-i-preserved : goal.loop-i-preserved
loop-i-preserved g c = (
  omega (arith, c.loop-i-test.true, c.loop-i.invariant.0),
  λ a given many gs.
      let v = g.S.StateStore.seen c.args.s.now in
      let i = c.loop-i.i - 1 in
      let up : c.loop-i.i ≡ suc i = omega (arith, c.loop-i-test.true) in
      let within : i < arity (value_of v c.args.at) = omega (arith, up, many, c.loop-i.invariant.0) in
      leaves-more v c.args.at c.arg.result i c.args.left.now.items c.loop-i.left.items c.push.new.self.items
      (subst (λ n. LeavesFrom v c.args.at n c.args.left.now.items c.loop-i.left.items) up (c.loop-i.invariant.1 a given many gs))
      (argument v c.args.at c.arg.result i a given within c.arg.ensures) c.in_ok-push.ensures.items,
)

pub returns : goal.returns
returns g c = λ name a given is many gs.
    let v = g.S.StateStore.seen c.args.s.now in
    let none : c.loop-i.i ≡ 0 = omega (arith, c.loop-i-test.false) in
    leaves-all v c.args.at name c.args.left.now.items c.loop-i.left.items is (subst (λ n. LeavesFrom v c.args.at n c.args.left.now.items c.loop-i.left.items) none (c.loop-i.invariant.1 a given many gs))
