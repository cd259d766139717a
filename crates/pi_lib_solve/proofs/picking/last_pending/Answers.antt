use Rattle.std.proofs.Common.{◌≡◌, ◌<◌, ◌+◌, ◌-◌, true, false, length, get_or, rules, arith, ap, subst, drop, []}
use Rattle.std.proofs.lemmas.List.{get_or_default}
use Rattle.std.specs.Prelude.{is_some}
use Rattle.pi_constraints.specs.declared.store.Ref.{Ref}
use Rattle.pi_lib_constraints.proofs.KeepLemmas.{item-at, none-behind}
use Rattle.pi_settling.specs.Choices.{pending}
use Rattle.pi_lib_solve.proofs.PickLemmas.{last-passed, last-taken, none-last}
use Rattle.pi_lib_solve.proofs.picking.last_pending.Goals as goal

pub loop-k-init : goal.loop-k-init
loop-k-init g c = λ xs is are.
    let v = g.S.StateStore.seen c.args.s.now in
    ap (pending v.now.state) (none-behind v c.args.items.now xs _ are (omega arith))

pub loop-k-preserved : goal.loop-k-preserved
loop-k-preserved g c = λ xs is are.
    let v = g.S.StateStore.seen c.args.s.now in
    let rs = c.args.items.now in
    let k = c.loop-k.k - 1 in
    let up : c.loop-k.k ≡ k + 1 = omega (arith, c.loop-k-test.true) in
    let low : k < length rs = omega (arith, c.loop-k-test.true, c.loop-k.auto.k) in
    let none : Ref = record { number = 0 } in
    let r : Ref = get_or rs k none in
    let at = item-at v rs xs k r are low (get_or_default rs k none r low) in
    let missed : is_some c.pending-found.result ≡ false = search rules in
    last-passed v.now.state xs k at.it c.pending-found.result (subst (λ n. pending v.now.state (drop n xs) ≡ []) up (c.loop-k.invariant xs is are)) at.behind (c.pending-found.ensures at.it is at.is) missed

pub returns-then-is_some : goal.returns-then-is_some
returns-then-is_some g c = λ xs is are.
    let v = g.S.StateStore.seen c.args.s.now in
    let rs = c.args.items.now in
    let k = c.loop-k.k - 1 in
    let up : c.loop-k.k ≡ k + 1 = omega (arith, c.loop-k-test.true) in
    let low : k < length rs = omega (arith, c.loop-k-test.true, c.loop-k.auto.k) in
    let none : Ref = record { number = 0 } in
    let r : Ref = get_or rs k none in
    let at = item-at v rs xs k r are low (get_or_default rs k none r low) in
    let hit : is_some c.pending-found.result ≡ true = search rules in
    last-taken v.now.state xs k at.it c.pending-found.result (subst (λ n. pending v.now.state (drop n xs) ≡ []) up (c.loop-k.invariant xs is are)) at.behind (c.pending-found.ensures at.it is at.is) hit

pub returns : goal.returns
returns g c = λ xs is are.
    let v = g.S.StateStore.seen c.args.s.now in
    none-last v.now.state xs c.loop-k.k (c.loop-k.invariant xs is are) (omega (arith, c.loop-k-test.false))
