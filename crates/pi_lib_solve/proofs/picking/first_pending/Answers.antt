use Rattle.std.proofs.Common.{◌≡◌, true, false, get_or, rules, arith, ap, sym}
use Rattle.std.proofs.lemmas.List.{get_or_default}
use Rattle.std.specs.Prelude.{is_some}
use Rattle.pi_constraints.specs.declared.store.Ref.{Ref}
use Rattle.pi_lib_constraints.proofs.KeepLemmas.{item-at, none-behind}
use Rattle.pi_settling.specs.Choices.{pending}
use Rattle.pi_settling.specs.Options.{forward}
use Rattle.pi_lib_solve.proofs.PickLemmas.{all-ahead, first-passed, first-taken, none-first}
use Rattle.pi_lib_solve.proofs.picking.first_pending.Goals as goal

pub loop-k-init : goal.loop-k-init
loop-k-init g c = λ xs is are. ap (pending (g.S.StateStore.seen c.args.s.now).now.state) (sym (all-ahead xs))

pub loop-k-preserved : goal.loop-k-preserved
loop-k-preserved g c = λ xs is are.
    let v = g.S.StateStore.seen c.args.s.now in
    let rs = c.args.items.now in
    let k = c.loop-k.k in
    let none : Ref = record { number = 0 } in
    let r : Ref = get_or rs k none in
    let at = item-at v rs xs k r are c.loop-k-test.true (get_or_default rs k none r c.loop-k-test.true) in
    let missed : is_some c.pending-found.result ≡ false = search rules in
    first-passed v.now.state xs k at.it c.pending-found.result (c.loop-k.invariant xs is are) at.behind (c.pending-found.ensures at.it is at.is) missed

pub returns-then-is_some : goal.returns-then-is_some
returns-then-is_some g c = λ xs is are.
    let v = g.S.StateStore.seen c.args.s.now in
    let rs = c.args.items.now in
    let k = c.loop-k.k in
    let none : Ref = record { number = 0 } in
    let r : Ref = get_or rs k none in
    let at = item-at v rs xs k r are c.loop-k-test.true (get_or_default rs k none r c.loop-k-test.true) in
    let hit : is_some c.pending-found.result ≡ true = search rules in
    first-taken v.now.state xs k at.it c.pending-found.result (c.loop-k.invariant xs is are) at.behind (c.pending-found.ensures at.it is at.is) hit

pub returns : goal.returns
returns g c = λ xs is are.
    let v = g.S.StateStore.seen c.args.s.now in
    none-first v.now.state xs c.loop-k.k forward (c.loop-k.invariant xs is are) (none-behind v c.args.items.now xs c.loop-k.k are (omega (arith, c.loop-k-test.false, c.loop-k.auto.k-end)))
