use Rattle.std.proofs.Common.{List}
use Rattle.pi_constraints.specs.declared.constraint.Item.{Item}
use Rattle.pi_constraints.specs.State.{IsState}
use Rattle.pi_lib_constraints.specs.Kept.{AreRefsOf}
use Rattle.pi_lib_solve.proofs.PickLemmas.{IsSmallestTo}
use Rattle.pi_lib_solve.proofs.picking.smallest_pending.Given as goal

abbrev pub invariant-loop-k : goal.invariant-loop-k
invariant-loop-k g l =
    let v = g.S.StateStore.seen l.s in
    (xs : List Item) → IsState v.now.state → AreRefsOf v l.items xs → IsSmallestTo v.now.state xs l.smallest l.k
