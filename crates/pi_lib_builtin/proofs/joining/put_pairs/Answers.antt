use Rattle.std.proofs.Common.{◌≡◌, ◌<◌, ◌-◌, suc, length, get_or, subst, arith}
use Rattle.std.proofs.lemmas.List.{get_or_default}
use Rattle.pi_constraints.specs.Store.{IsTerm, Stays}
use Rattle.pi_constraints.specs.declared.store.Ref.{Ref}
use Rattle.pi_effects.specs.Items.{list_of}
use Rattle.pi_unify.proofs.KeepsLemmas.{stays_then}
use Rattle.pi_lib_builtin.proofs.BuildLemmas.{pairs_from, pairs-none, pairs-more}
use Rattle.std.proofs.lemmas.Result.{IfOk-from_err}
use Rattle.pi_lib_builtin.proofs.joining.put_pairs.Goals as goal

pub loop-i-init : goal.loop-i-init
loop-i-init g c = record {
  stays = c.in_ok-list.ensures.ok.changes;
  puts = λ ts us items others.
      pairs-none (g.S.StateStore.seen c.args.s.now) (g.S.StateStore.seen c.put_atom.new.self) c.args.items.now c.args.others.now ts us c.min-i.result c.in_ok-list.list items others (omega (arith, c.min-i.ensures)) c.in_ok-list.ensures.ok.term;
}

pub loop-i-preserved : goal.loop-i-preserved
loop-i-preserved g c =
    let v = g.S.StateStore.seen c.args.s.now in
    let w = g.S.StateStore.seen c.loop-i.s in
    let x = g.S.StateStore.seen c.put_comp.new.self in
    let y = g.S.StateStore.seen c.put_comp-in-loop-i.new.self in
    let rs = c.args.items.now in
    let qs = c.args.others.now in
    let i = c.loop-i.i - 1 in
    let up : c.loop-i.i ≡ suc i = omega (arith, c.loop-i-test.true) in
    let low : i < length rs = omega (arith, c.loop-i-test.true, c.loop-i.auto.i, c.min-i.ensures) in
    let high : i < length qs = omega (arith, c.loop-i-test.true, c.loop-i.auto.i, c.min-i.ensures) in
    let none : Ref = record { number = 0 } in
    let r : Ref = get_or rs i none in
    let q : Ref = get_or qs i none in
    let first : Stays v x = stays_then v w x v.now.state c.loop-i.invariant.stays c.in_ok-pair.ensures.stays in
    record {
      stays = stays_then v x y v.now.state first c.in_ok-list-2.ensures.stays;
      puts = λ ts us items others.
          pairs-more v w x y rs qs ts us i r q c.in_ok-pair.pair c.loop-i.list c.in_ok-list-2.list items others low high (get_or_default rs i none r low) (get_or_default qs i none q high) c.loop-i.invariant.stays.keeps c.in_ok-pair.ensures.stays.keeps
          (subst (λ n. IsTerm w c.loop-i.list (list_of (pairs_from n ts us))) up (c.loop-i.invariant.puts ts us items others)) c.in_ok-pair.ensures.ok c.in_ok-list-2.ensures.ok;
    }

pub returns-clause-ok : goal.returns-clause-ok
returns-clause-ok g c = λ ts us items others.
    let w = g.S.StateStore.seen c.loop-i.s in
    let none : c.loop-i.i ≡ 0 = omega (arith, c.loop-i-test.false) in
    subst (λ n. IsTerm w c.loop-i.list (list_of (pairs_from n ts us))) none (c.loop-i.invariant.puts ts us items others)

pub returns-in_err-list-clause-stays : goal.returns-in_err-list-clause-stays
returns-in_err-list-clause-stays g c = c.in_err-list.ensures.err

pub returns-in_err-list-clause-ok : goal.returns-in_err-list-clause-ok
returns-in_err-list-clause-ok g c = IfOk-from_err c.from_residual.result _ c.from_residual.ensures.0

pub returns-in_err-pair-clause-stays : goal.returns-in_err-pair-clause-stays
returns-in_err-pair-clause-stays g c =
    let v = g.S.StateStore.seen c.args.s.now in
    stays_then v (g.S.StateStore.seen c.loop-i.s) (g.S.StateStore.seen c.put_comp.new.self) v.now.state c.loop-i.invariant.stays c.in_err-pair.ensures.stays

pub returns-in_err-pair-clause-ok : goal.returns-in_err-pair-clause-ok
returns-in_err-pair-clause-ok g c = IfOk-from_err c.from_residual-in_err-pair.result _ c.from_residual-in_err-pair.ensures.0

pub returns-in_err-list-2-clause-stays : goal.returns-in_err-list-2-clause-stays
returns-in_err-list-2-clause-stays g c =
    let v = g.S.StateStore.seen c.args.s.now in
    let x = g.S.StateStore.seen c.put_comp.new.self in
    stays_then v x (g.S.StateStore.seen c.put_comp-in-loop-i.new.self) v.now.state (stays_then v (g.S.StateStore.seen c.loop-i.s) x v.now.state c.loop-i.invariant.stays c.in_ok-pair.ensures.stays) c.in_err-list-2.ensures.stays

pub returns-in_err-list-2-clause-ok : goal.returns-in_err-list-2-clause-ok
returns-in_err-list-2-clause-ok g c = IfOk-from_err c.from_residual-in_err-list-2.result _ c.from_residual-in_err-list-2.ensures.0

pub returns-clause-stays : goal.returns-clause-stays
returns-clause-stays g c = c.loop-i.invariant.stays
