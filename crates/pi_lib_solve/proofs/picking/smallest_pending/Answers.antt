use Rattle.std.proofs.Common.{◌+◌, get_or, arith, sym, subst}
use Rattle.std.proofs.lemmas.List.{get_or_default}
use Rattle.pi_constraints.specs.declared.store.Ref.{Ref}
use Rattle.pi_lib_constraints.proofs.KeepLemmas.{item-at, none-behind}
use Rattle.pi_settling.specs.Choices.{pending_at}
use Rattle.pi_settling.specs.Roots.{root_item}
use Rattle.pi_lib_solve.specs.Picked.{ShowsPicked}
use Rattle.pi_lib_solve.proofs.PickLemmas.{IsSmallestTo, smallest-first, smallest-passed, smallest-taken, smallest-none, smallest-is}
use Rattle.pi_lib_solve.proofs.picking.smallest_pending.Goals as goal
use Rattle.pi_lib_solve.proofs.picking.smallest_pending.Goals.{in-Some, in_default}

pub loop-k-init : goal.loop-k-init
loop-k-init g c = λ xs is are. smallest-first (g.S.StateStore.seen c.args.s.now).now.state xs

pub loop-k-preserved : goal.loop-k-preserved
loop-k-preserved g c = λ xs is are.
    let v = g.S.StateStore.seen c.args.s.now in
    let s = v.now.state in
    let rs = c.args.items.now in
    let k = c.loop-k.k in
    let none : Ref = record { number = 0 } in
    let r : Ref = get_or rs k none in
    let at = item-at v rs xs k r are c.loop-k-test.true (get_or_default rs k none r c.loop-k-test.true) in
    let so = c.loop-k.invariant xs is are in
    elim c.match-pending.branch [
      | in-Some w ↦
          let shows = subst (λ o. ShowsPicked s o (pending_at s (root_item s at.it))) w.in-Some.is (c.pending.ensures at.it is at.is) in
          subst (λ o. IsSmallestTo s xs o (k + 1)) (sym w.smallest-is) (smallest-taken s xs c.loop-k.smallest k at.it w.in-Some.variable w.value_count.result w.smaller.result so at.behind shows w.value_count.ensures w.smaller.ensures)
      | in_default w ↦
          let shows = subst (λ o. ShowsPicked s o (pending_at s (root_item s at.it))) w.in_default.is (c.pending.ensures at.it is at.is) in
          subst (λ o. IsSmallestTo s xs o (k + 1)) (sym w.smallest-is) (smallest-passed s xs c.loop-k.smallest k at.it so at.behind shows)
    ]

pub returns-in-Some-smallest : goal.returns-in-Some-smallest
returns-in-Some-smallest g c = λ xs is are.
    let v = g.S.StateStore.seen c.args.s.now in
    smallest-is v.now.state xs c.loop-k.smallest c.loop-k.k c.in-Some-smallest.found (c.loop-k.invariant xs is are) (none-behind v c.args.items.now xs c.loop-k.k are (omega (arith, c.loop-k-test.false, c.loop-k.auto.k-end))) c.in-Some-smallest.is

pub returns-in-None : goal.returns-in-None
returns-in-None g c = λ xs is are.
    let v = g.S.StateStore.seen c.args.s.now in
    smallest-none v.now.state xs c.loop-k.smallest c.loop-k.k (c.loop-k.invariant xs is are) (none-behind v c.args.items.now xs c.loop-k.k are (omega (arith, c.loop-k-test.false, c.loop-k.auto.k-end))) c.in-None.is
