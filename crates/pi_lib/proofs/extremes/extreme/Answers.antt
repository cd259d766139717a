use Rattle.std.proofs.Common.{◌≡◌, ◌<◌, suc, length, get_or, sym, subst, arith, add-one}
use Rattle.std.proofs.lemmas.List.{get_or_default}
use Rattle.pi_constraints.specs.declared.store.Ref.{Ref}
use Rattle.pi_lib.proofs.LoopLemmas.{not-empty}
use Rattle.pi_lib.proofs.ExtremeLemmas.{IsBest, none-best, first-best, better-next, best-stays, best-shown}
use Rattle.pi_lib.proofs.extremes.extreme.Goals as goal
use Rattle.pi_lib.proofs.extremes.extreme.Goals.{then-better, else-better}

pub loop-i-init : goal.loop-i-init
loop-i-init g c = λ ts a items.
    let v = g.S.StateStore.seen c.args.s.now in
    let rs = c.args.items.now in
    let low : 0 < length rs = not-empty (length rs) c.is_empty.result c.is_empty.ensures c.if-is_empty.false in
    let none : Ref = record { number = 0 } in
    let r : Ref = get_or rs 0 none in
    first-best v c.args.end rs ts r items low (get_or_default rs 0 none r low)

pub returns : goal.returns
returns g c = λ ts a items.
    let v = g.S.StateStore.seen c.args.s.now in
    best-shown v c.args.end c.args.items.now ts c.loop-i.i c.loop-i.best items (omega (arith, c.loop-i-test.false)) (c.loop-i.invariant ts a items)

pub loop-i-preserved : goal.loop-i-preserved
loop-i-preserved g c = λ ts a items.
    let v = g.S.StateStore.seen c.args.s.now in
    let rs = c.args.items.now in
    let i = c.loop-i.i in
    let low : i < length rs = omega (arith, c.loop-i-test.true) in
    let none : Ref = record { number = 0 } in
    let q : Ref = get_or rs i none in
    let q-is : q ≡ get_or rs i q = get_or_default rs i none q low in
    let before : IsBest v c.args.end ts i c.loop-i.best = c.loop-i.invariant ts a items in
    elim c.if-better.branch [
      | then-better w ↦
          subst (λ n. IsBest v c.args.end ts n c.if-better.best) (sym (add-one i)) (subst (λ (r : Ref). IsBest v c.args.end ts (suc i) r) (sym w.best-is)
          (better-next v c.args.end rs ts i c.loop-i.best q c.in_ok-better.better items low q-is before (λ t u one two. c.in_ok-better.ensures t u a one two) w.if-better.true))
      | else-better w ↦
          subst (λ n. IsBest v c.args.end ts n c.if-better.best) (sym (add-one i)) (subst (λ (r : Ref). IsBest v c.args.end ts (suc i) r) (sym w.best-is)
          (best-stays v c.args.end rs ts i c.loop-i.best q c.in_ok-better.better items low q-is before (λ t u one two. c.in_ok-better.ensures t u a one two) w.if-better.false))
    ]
