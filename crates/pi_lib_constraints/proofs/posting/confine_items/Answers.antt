use Rattle.std.proofs.Common.{arith, refl, get_or}
use Rattle.pi_constraints.specs.declared.constraint.Item.{Item}
use Rattle.pi_unify.proofs.KeepsLemmas.{keeps_none, keeps_then}
use Rattle.pi_lib_constraints.proofs.PostLemmas.{confined-none, confined-more, confined-all, still-state, item-made}
use Rattle.pi_lib_constraints.proofs.posting.confine_items.Goals as goal

pub loop-k-init : goal.loop-k-init
loop-k-init g c = let v = g.S.StateStore.seen c.args.s.now in record { keeps = keeps_none v; state = λ is e all. confined-none v.now.state }

pub loop-k-preserved : goal.loop-k-preserved
loop-k-preserved g c =
    let v = g.S.StateStore.seen c.args.s.now in
    let w = g.S.StateStore.seen c.loop-k.s in
    let x = g.S.StateStore.seen c.confine.new.s in
    let items = c.args.items.now in
    let k = c.loop-k.k in
    let one : Item = get_or items k (Item.Var 0) in
    record {
      keeps = keeps_then v w x c.loop-k.invariant.keeps c.in_ok-confine.ensures.keeps;
      state = λ is e all.
          let had = c.loop-k.invariant.state is e all in
          confined-more items k one v.now.state w.now.state x.now.state c.loop-k-test.true refl had
          (c.in_ok-confine.ensures.ok (still-state _ v.now.state w.now.state is had) e (item-made items k one v.now.state w.now.state c.loop-k-test.true refl had all));
    }

pub returns-clause-ok : goal.returns-clause-ok
returns-clause-ok g c = λ is e all.
    confined-all c.args.items.now c.loop-k.k (g.S.StateStore.seen c.args.s.now).now.state (g.S.StateStore.seen c.loop-k.s).now.state (omega (arith, c.loop-k-test.false, c.loop-k.auto.k-end)) (c.loop-k.invariant.state is e all)
