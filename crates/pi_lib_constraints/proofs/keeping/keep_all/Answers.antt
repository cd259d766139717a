use Rattle.std.proofs.Common.{◌≡◌, true, false, get_or, rules, arith}
use Rattle.std.proofs.lemmas.List.{get_or_default}
use Rattle.pi_constraints.specs.declared.store.Ref.{Ref}
use Rattle.pi_unify.proofs.KeepsLemmas.{keeps_then}
use Rattle.pi_lib_constraints.specs.Kept.{item_kept, item_term}
use Rattle.pi_lib_constraints.proofs.KeepLemmas.{item-at, so-more, so-stops, so-all}
use Rattle.pi_lib_constraints.proofs.keeping.keep_all.Goals as goal

pub loop-k-preserved : goal.loop-k-preserved
loop-k-preserved g c =
    let v = g.S.StateStore.seen c.args.s.now in
    let w = g.S.StateStore.seen c.loop-k.s in
    let x = g.S.StateStore.seen c.keep_item.new.s in
    let rs = c.args.items.now in
    let k = c.loop-k.k in
    let none : Ref = record { number = 0 } in
    let r : Ref = get_or rs k none in
    let holds : c.in_ok-some.some ≡ true = search rules in
    record {
      keeps = keeps_then v w x c.loop-k.invariant.keeps c.in_ok-some.ensures.keeps;
      left = λ xs is up are.
          let so = c.loop-k.invariant.left xs is up are in
          let at = item-at v rs xs k r are c.loop-k-test.true (get_or_default rs k none r c.loop-k-test.true) in
          so-more v c.args.wanted c.args.domain.now c.args.kept.now xs k r v.now.state w.now.state x.now.state c.in_ok-some.some up so at
          (c.in_ok-some.ensures.left at.it so.state (c.loop-k.invariant.keeps.terms r (item_term at.it) at.is)) holds;
    }

pub returns-then-not-some-clause-left : goal.returns-then-not-some-clause-left
returns-then-not-some-clause-left g c = λ xs is up are.
    let v = g.S.StateStore.seen c.args.s.now in
    let w = g.S.StateStore.seen c.loop-k.s in
    let x = g.S.StateStore.seen c.keep_item.new.s in
    let rs = c.args.items.now in
    let k = c.loop-k.k in
    let none : Ref = record { number = 0 } in
    let r : Ref = get_or rs k none in
    let fails : c.in_ok-some.some ≡ false = search rules in
    let so = c.loop-k.invariant.left xs is up are in
    let at = item-at v rs xs k r are c.loop-k-test.true (get_or_default rs k none r c.loop-k-test.true) in
    so-stops v c.args.wanted c.args.domain.now c.args.kept.now xs k r v.now.state w.now.state x.now.state c.in_ok-some.some so at
    (c.in_ok-some.ensures.left at.it so.state (c.loop-k.invariant.keeps.terms r (item_term at.it) at.is)) fails

pub returns-clause-left : goal.returns-clause-left
returns-clause-left g c = λ xs is up are.
    let v = g.S.StateStore.seen c.args.s.now in
    so-all v (item_kept c.args.wanted c.args.domain.now c.args.kept.now) c.args.items.now xs c.loop-k.k v.now.state (g.S.StateStore.seen c.loop-k.s).now.state are (omega (arith, c.loop-k-test.false, c.loop-k.auto.k-end)) (c.loop-k.invariant.left xs is up are)
