use Rattle.std.proofs.Common.{◌<◌, ◌≤◌, length, take, reverse, get_or, sym, subst, arith, add-one}
use Rattle.std.proofs.lemmas.List.{get_or_default}
use Rattle.pi_constraints.specs.Store.{IsTerm}
use Rattle.pi_constraints.specs.declared.store.Ref.{Ref}
use Rattle.pi_effects.specs.Items.{list_of}
use Rattle.pi_unify.proofs.KeepsLemmas.{stays_then}
use Rattle.pi_lib_builtin.proofs.RowLemmas.{as-many, all-before}
use Rattle.pi_lib_builtin.proofs.BuildLemmas.{reversed-none, reversed-more}
use Rattle.std.proofs.lemmas.Result.{IfOk-from_err}
use Rattle.pi_lib_builtin.proofs.joining.put_reversed.Goals as goal

pub loop-item-init : goal.loop-item-init
loop-item-init g c = record {
  stays = c.in_ok-list.ensures.ok.changes;
  puts = λ ts items. reversed-none (g.S.StateStore.seen c.put_atom.new.self) ts c.in_ok-list.list c.in_ok-list.ensures.ok.term;
}

pub loop-item-preserved : goal.loop-item-preserved
loop-item-preserved g c =
    let v = g.S.StateStore.seen c.args.s.now in
    let w = g.S.StateStore.seen c.loop-item.s in
    let x = g.S.StateStore.seen c.put_comp.new.self in
    let rs = c.args.items.now in
    let i = c.loop-item.item-index in
    let low : i < length rs = omega (arith, c.loop-item-test.true) in
    let none : Ref = record { number = 0 } in
    let r : Ref = get_or rs i none in
    record {
      stays = stays_then v w x v.now.state c.loop-item.invariant.stays c.in_ok-list-2.ensures.stays;
      puts = λ ts items.
          subst (λ n. IsTerm x c.in_ok-list-2.list (list_of (reverse (take n ts)))) (sym (add-one i))
          (reversed-more v w x rs ts i r c.loop-item.list c.in_ok-list-2.list items low (get_or_default rs i none r low) c.loop-item.invariant.stays.keeps (c.loop-item.invariant.puts ts items) c.in_ok-list-2.ensures.ok);
    }

pub returns-clause-ok : goal.returns-clause-ok
returns-clause-ok g c = λ ts items.
    let v = g.S.StateStore.seen c.args.s.now in
    let w = g.S.StateStore.seen c.loop-item.s in
    let all : length ts ≤ c.loop-item.item-index = omega (arith, c.loop-item-test.false, as-many v c.args.items.now ts items) in
    subst (λ us. IsTerm w c.loop-item.list (list_of (reverse us))) (all-before ts c.loop-item.item-index all) (c.loop-item.invariant.puts ts items)

pub returns-in_err-list-clause-stays : goal.returns-in_err-list-clause-stays
returns-in_err-list-clause-stays g c = c.in_err-list.ensures.err

pub returns-in_err-list-clause-ok : goal.returns-in_err-list-clause-ok
returns-in_err-list-clause-ok g c = IfOk-from_err c.from_residual.result _ c.from_residual.ensures.0

pub returns-in_err-list-2-clause-stays : goal.returns-in_err-list-2-clause-stays
returns-in_err-list-2-clause-stays g c =
    let v = g.S.StateStore.seen c.args.s.now in
    stays_then v (g.S.StateStore.seen c.loop-item.s) (g.S.StateStore.seen c.put_comp.new.self) v.now.state c.loop-item.invariant.stays c.in_err-list-2.ensures.stays

pub returns-in_err-list-2-clause-ok : goal.returns-in_err-list-2-clause-ok
returns-in_err-list-2-clause-ok g c = IfOk-from_err c.from_residual-in_err-list-2.result _ c.from_residual-in_err-list-2.ensures.0

pub returns-clause-stays : goal.returns-clause-stays
returns-clause-stays g c = c.loop-item.invariant.stays
