use Rattle.std.proofs.Common.{◌≡◌, ◌<◌, ◌-◌, suc, length, drop, get_or, sym, ◌∙◌, subst, arith}
use Rattle.std.proofs.lemmas.List.{get_or_default}
use Rattle.pi_constraints.specs.Value.{IsAcyclic}
use Rattle.pi_constraints.specs.State.{State, bindings}
use Rattle.pi_constraints.specs.Store.{IsTerm}
use Rattle.pi_constraints.specs.declared.store.Ref.{Ref}
use Rattle.pi_effects.specs.Items.{list_of}
use Rattle.pi_effects.specs.Collections.{without}
use Rattle.pi_unify.proofs.KeepsLemmas.{stays_then}
use Rattle.pi_lib_builtin.proofs.BuildLemmas.{others-none, other-kept, same-gone}
use Rattle.std.proofs.lemmas.Result.{IfOk-from_err}
use Rattle.pi_lib_builtin.proofs.joining.put_others.Goals as goal

pub loop-i-init : goal.loop-i-init
loop-i-init g c = record {
  stays = c.in_ok-list.ensures.ok.changes;
  puts = λ ts u a items is.
      others-none (g.S.StateStore.seen c.args.s.now) (g.S.StateStore.seen c.put_atom.new.self) c.args.items.now ts (length c.args.items.now) c.in_ok-list.list u items (omega arith) c.in_ok-list.ensures.ok.term;
}

pub loop-i-preserved-then-is_ne : goal.loop-i-preserved-then-is_ne
loop-i-preserved-then-is_ne g c =
    let v = g.S.StateStore.seen c.args.s.now in
    let w = g.S.StateStore.seen c.loop-i.s in
    let x = g.S.StateStore.seen c.put_comp.new.self in
    let rs = c.args.items.now in
    let i = c.loop-i.i - 1 in
    let up : c.loop-i.i ≡ suc i = omega (arith, c.loop-i-test.true) in
    let low : i < length rs = omega (arith, c.loop-i-test.true, c.loop-i.auto.i) in
    let none : Ref = record { number = 0 } in
    let r : Ref = get_or rs i none in
    record {
      stays = stays_then v w x v.now.state c.loop-i.invariant.stays c.in_ok-list-2.ensures.stays;
      puts = λ ts u a items is.
          let calm : IsAcyclic (bindings w.now.state) = subst (λ (s : State). IsAcyclic (bindings s)) (sym c.loop-i.invariant.stays.state) a in
          other-kept v w x rs ts i r c.args.term c.loop-i.list c.in_ok-list-2.list u c.in_ok-order.order items low (get_or_default rs i none r low) c.loop-i.invariant.stays is
          (λ t q one two. c.in_ok-order.ensures t q one two calm) (sym c.is_ne.ensures ∙ c.if-is_ne.true)
          (subst (λ n. IsTerm w c.loop-i.list (list_of (without v.now.state u (drop n ts)))) up (c.loop-i.invariant.puts ts u a items is)) c.in_ok-list-2.ensures.ok;
    }

pub loop-i-preserved : goal.loop-i-preserved
loop-i-preserved g c =
    let v = g.S.StateStore.seen c.args.s.now in
    let w = g.S.StateStore.seen c.loop-i.s in
    let rs = c.args.items.now in
    let i = c.loop-i.i - 1 in
    let up : c.loop-i.i ≡ suc i = omega (arith, c.loop-i-test.true) in
    let low : i < length rs = omega (arith, c.loop-i-test.true, c.loop-i.auto.i) in
    let none : Ref = record { number = 0 } in
    let r : Ref = get_or rs i none in
    record {
      stays = c.loop-i.invariant.stays;
      puts = λ ts u a items is.
          let calm : IsAcyclic (bindings w.now.state) = subst (λ (s : State). IsAcyclic (bindings s)) (sym c.loop-i.invariant.stays.state) a in
          same-gone v w rs ts i r c.args.term c.loop-i.list u c.in_ok-order.order items low (get_or_default rs i none r low) c.loop-i.invariant.stays is
          (λ t q one two. c.in_ok-order.ensures t q one two calm) (sym c.is_ne.ensures ∙ c.if-is_ne.false)
          (subst (λ n. IsTerm w c.loop-i.list (list_of (without v.now.state u (drop n ts)))) up (c.loop-i.invariant.puts ts u a items is));
    }

pub returns-clause-ok : goal.returns-clause-ok
returns-clause-ok g c = λ ts u a items is.
    let v = g.S.StateStore.seen c.args.s.now in
    let w = g.S.StateStore.seen c.loop-i.s in
    let none : c.loop-i.i ≡ 0 = omega (arith, c.loop-i-test.false) in
    subst (λ n. IsTerm w c.loop-i.list (list_of (without v.now.state u (drop n ts)))) none (c.loop-i.invariant.puts ts u a items is)

pub returns-in_err-list-clause-stays : goal.returns-in_err-list-clause-stays
returns-in_err-list-clause-stays g c = c.in_err-list.ensures.err

pub returns-in_err-list-clause-ok : goal.returns-in_err-list-clause-ok
returns-in_err-list-clause-ok g c = IfOk-from_err c.from_residual.result _ c.from_residual.ensures.0

pub returns-in_err-order-clause-stays : goal.returns-in_err-order-clause-stays
returns-in_err-order-clause-stays g c = c.loop-i.invariant.stays

pub returns-in_err-order-clause-ok : goal.returns-in_err-order-clause-ok
returns-in_err-order-clause-ok g c = IfOk-from_err c.from_residual-in_err-order.result _ c.from_residual-in_err-order.ensures.0

pub returns-in_err-list-2-clause-stays : goal.returns-in_err-list-2-clause-stays
returns-in_err-list-2-clause-stays g c =
    let v = g.S.StateStore.seen c.args.s.now in
    stays_then v (g.S.StateStore.seen c.loop-i.s) (g.S.StateStore.seen c.put_comp.new.self) v.now.state c.loop-i.invariant.stays c.in_err-list-2.ensures.stays

pub returns-in_err-list-2-clause-ok : goal.returns-in_err-list-2-clause-ok
returns-in_err-list-2-clause-ok g c = IfOk-from_err c.from_residual-in_err-list-2.result _ c.from_residual-in_err-list-2.ensures.0

pub returns-clause-stays : goal.returns-clause-stays
returns-clause-stays g c = c.loop-i.invariant.stays
