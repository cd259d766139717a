use Rattle.std.proofs.Common.{◌<◌, length, get_or, rules, arith}
use Rattle.std.proofs.lemmas.List.{get_or_default}
use Rattle.std.proofs.lemmas.Result.{err_from_is_err_and}
use Rattle.pi_constraints.specs.declared.store.Ref.{Ref}
use Rattle.pi_lib_builtin.proofs.TotalLemmas.{total-more, total-stops, total-is}
use Rattle.pi_lib_builtin.proofs.totals.total.Goals as goal

pub returns-in_err-sum : goal.returns-in_err-sum
returns-in_err-sum g c = λ ts a items.
    let v = g.S.StateStore.seen c.args.s.now in
    let rs = c.args.items.now in
    let i = c.loop-item.item-index in
    let low : i < length rs = omega (arith, c.loop-item-test.true) in
    let none : Ref = record { number = 0 } in
    let r : Ref = get_or rs i none in
    let p = err_from_is_err_and c.from_residual.result c.from_residual.ensures.1 in
    rw (p.1, p.2) (total-stops v rs ts i r c.args.op _ _ _ _ _ items low (get_or_default rs i none r low) (λ t is. c.in_err-sum.ensures t a is) (c.loop-item.invariant ts a items) (search rules) (search rules))

pub loop-item-preserved : goal.loop-item-preserved
loop-item-preserved g c = λ ts a items.
    let v = g.S.StateStore.seen c.args.s.now in
    let rs = c.args.items.now in
    let i = c.loop-item.item-index in
    let low : i < length rs = omega (arith, c.loop-item-test.true) in
    let none : Ref = record { number = 0 } in
    let r : Ref = get_or rs i none in
    total-more v rs ts i r c.args.op _ _ _ _ _ items low (get_or_default rs i none r low) (λ t is. c.in_ok-sum.ensures t a is) (c.loop-item.invariant ts a items) (search rules) (search rules)

pub returns : goal.returns
returns g c = λ ts a items.
    let v = g.S.StateStore.seen c.args.s.now in
    total-is v c.args.items.now ts c.loop-item.item-index c.args.op _ _ _ _ items (omega (arith, c.loop-item-test.false)) (c.loop-item.invariant ts a items) (search rules) (search rules)
