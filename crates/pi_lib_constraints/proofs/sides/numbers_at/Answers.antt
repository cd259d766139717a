use Rattle.std.proofs.Common.{get_or, ap, ◌∙◌, rules, arith}
use Rattle.std.specs.Prelude.{ℤ, Some}
use Rattle.std.proofs.lemmas.List.{get_or_default}
use Rattle.pi_constraints.specs.State.{bindings}
use Rattle.pi_constraints.specs.declared.store.Ref.{Ref}
use Rattle.pi_lib_builtin.proofs.RowLemmas.{item-at}
use Rattle.pi_lib_constraints.proofs.SideLemmas.{numbers-start, numbers-goes, numbers-stop, numbers-all}
use Rattle.pi_lib_constraints.proofs.sides.numbers_at.Goals as goal

pub loop-k-init : goal.loop-k-init
loop-k-init g c = λ ts a are. numbers-start (bindings (g.S.StateStore.seen c.args.s.now).now.state) ts c.new-numbers.result.items c.new-numbers.ensures.items

pub returns-in-None : goal.returns-in-None
returns-in-None g c = λ ts a are.
    let v = g.S.StateStore.seen c.args.s.now in
    let rs = c.args.items.now in
    let k = c.loop-k.k in
    let none : Ref = record { number = 0 } in
    let r : Ref = get_or rs k none in
    let at = item-at v rs ts k r are c.loop-k-test.true (get_or_default rs k none r c.loop-k-test.true) in
    numbers-stop v ts k r at (c.in-None.ensures at.it a at.is)

pub loop-k-preserved : goal.loop-k-preserved
loop-k-preserved g c = λ ts a are.
    let v = g.S.StateStore.seen c.args.s.now in
    let rs = c.args.items.now in
    let k = c.loop-k.k in
    let none : Ref = record { number = 0 } in
    let r : Ref = get_or rs k none in
    let at = item-at v rs ts k r are c.loop-k-test.true (get_or_default rs k none r c.loop-k-test.true) in
    numbers-goes v ts k r _ c.loop-k.numbers.items c.push.new.self.items at (c.loop-k.invariant ts a are) (ap (λ (n : ℤ). Some n) (search rules) ∙ c.in-Some.ensures at.it a at.is) c.in_ok-push-in-Some.ensures.items

pub returns : goal.returns
returns g c = λ ts a are.
    let v = g.S.StateStore.seen c.args.s.now in
    numbers-all v c.args.items.now ts c.loop-k.k c.loop-k.numbers.items are (omega (arith, c.loop-k-test.false, c.loop-k.auto.k-end)) (c.loop-k.invariant ts a are)
