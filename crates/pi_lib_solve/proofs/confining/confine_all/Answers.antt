use Rattle.std.proofs.Common.{arith, refl, ◌<◌, length, get_or}
use Rattle.pi_constraints.specs.declared.constraint.Item.{Item}
use Rattle.pi_unify.proofs.KeepsLemmas.{keeps_none, keeps_then}
use Rattle.pi_lib_constraints.specs.Kept.{item_term}
use Rattle.pi_lib_constraints.proofs.PostLemmas.{confined-none, confined-more, confined-all, still-state}
use Rattle.pi_lib_solve.proofs.ConfineLemmas.{as-many, ref-at}
use Rattle.pi_lib_solve.proofs.confining.confine_all.Goals as goal

pub loop-k-init : goal.loop-k-init
loop-k-init g c = let v = g.S.StateStore.seen c.args.s.now in record { keeps = keeps_none v; state = λ xs is e are. confined-none v.now.state }

pub loop-k-preserved : goal.loop-k-preserved
loop-k-preserved g c =
    let v = g.S.StateStore.seen c.args.s.now in
    let w = g.S.StateStore.seen c.loop-k.s in
    let z = g.S.StateStore.seen c.confine_at.new.s in
    let rs = c.args.items.now in
    let k = c.loop-k.k in
    record {
      keeps = keeps_then v w z c.loop-k.invariant.keeps c.in_ok-confine_at.ensures.keeps;
      state = λ xs is e are.
          let had = c.loop-k.invariant.state xs is e are in
          let first : Item = Item.Var 0 in
          let one : Item = get_or xs k first in
          let low : k < length xs = omega (arith, as-many v rs xs are, c.loop-k-test.true) in
          confined-more xs k one v.now.state w.now.state z.now.state low refl had
          (c.in_ok-confine_at.ensures.ok one (still-state _ v.now.state w.now.state is had) e (c.loop-k.invariant.keeps.terms _ (item_term one) (ref-at v rs xs k _ first are c.loop-k-test.true)));
    }

pub returns-clause-ok : goal.returns-clause-ok
returns-clause-ok g c = λ xs is e are.
    let v = g.S.StateStore.seen c.args.s.now in
    confined-all xs c.loop-k.k v.now.state (g.S.StateStore.seen c.loop-k.s).now.state (omega (arith, as-many v c.args.items.now xs are, c.loop-k-test.false, c.loop-k.auto.k-end)) (c.loop-k.invariant.state xs is e are)
