use Rattle.std.proofs.Common.{◌≡◌, ◌<◌, ◌-◌, suc, length, drop, get_or, refl, subst, arith}
use Rattle.std.proofs.lemmas.List.{get_or_default}
use Rattle.pi_constraints.specs.Store.{IsTerm}
use Rattle.pi_constraints.specs.declared.store.Ref.{Ref}
use Rattle.pi_effects.specs.Items.{list_onto}
use Rattle.pi_unify.proofs.KeepsLemmas.{keeps_none, stays_then}
use Rattle.pi_lib_builtin.proofs.BuildLemmas.{onto-none, onto-more}
use Rattle.std.proofs.lemmas.Result.{IfOk-from_err}
use Rattle.pi_lib_builtin.proofs.building.put_onto.Goals as goal

pub loop-i-init : goal.loop-i-init
loop-i-init g c =
    let v = g.S.StateStore.seen c.args.s.now in
    record {
      stays = record { keeps = keeps_none v; state = refl };
      puts = λ ts t items is. onto-none v v c.args.items.now ts (length c.args.items.now) c.args.rest t items (omega arith) is;
    }

pub loop-i-preserved : goal.loop-i-preserved
loop-i-preserved g c =
    let v = g.S.StateStore.seen c.args.s.now in
    let w = g.S.StateStore.seen c.loop-i.s in
    let x = g.S.StateStore.seen c.put_comp.new.self in
    let rs = c.args.items.now in
    let i = c.loop-i.i - 1 in
    let up : c.loop-i.i ≡ suc i = omega (arith, c.loop-i-test.true) in
    let low : i < length rs = omega (arith, c.loop-i-test.true, c.loop-i.auto.i) in
    let none : Ref = record { number = 0 } in
    let r : Ref = get_or rs i none in
    record {
      stays = stays_then v w x v.now.state c.loop-i.invariant.stays c.in_ok-list.ensures.stays;
      puts = λ ts t items is.
          onto-more v w x rs ts i r c.loop-i.list c.in_ok-list.list t items low (get_or_default rs i none r low) c.loop-i.invariant.stays.keeps
          (subst (λ n. IsTerm w c.loop-i.list (list_onto (drop n ts) t)) up (c.loop-i.invariant.puts ts t items is)) c.in_ok-list.ensures.ok;
    }

pub returns-clause-ok : goal.returns-clause-ok
returns-clause-ok g c = λ ts t items is.
    let w = g.S.StateStore.seen c.loop-i.s in
    let none : c.loop-i.i ≡ 0 = omega (arith, c.loop-i-test.false) in
    subst (λ n. IsTerm w c.loop-i.list (list_onto (drop n ts) t)) none (c.loop-i.invariant.puts ts t items is)

pub returns-in_err-list-clause-stays : goal.returns-in_err-list-clause-stays
returns-in_err-list-clause-stays g c =
    let v = g.S.StateStore.seen c.args.s.now in
    stays_then v (g.S.StateStore.seen c.loop-i.s) (g.S.StateStore.seen c.put_comp.new.self) v.now.state c.loop-i.invariant.stays c.in_err-list.ensures.stays

pub returns-in_err-list-clause-ok : goal.returns-in_err-list-clause-ok
returns-in_err-list-clause-ok g c = IfOk-from_err c.from_residual.result _ c.from_residual.ensures.0

pub returns-clause-stays : goal.returns-clause-stays
returns-clause-stays g c = c.loop-i.invariant.stays
