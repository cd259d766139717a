use Rattle.std.proofs.Common.{◌≡◌, List, drop}
use Rattle.pi_constraints.specs.declared.constraint.Item.{Item}
use Rattle.pi_constraints.specs.State.{IsState}
use Rattle.pi_lib_constraints.specs.Kept.{AreRefsOf}
use Rattle.pi_settling.specs.Choices.{pending}
use Rattle.pi_lib_solve.proofs.picking.first_pending.Given as goal

abbrev pub invariant-loop-k : goal.invariant-loop-k
invariant-loop-k g l =
    let v = g.S.StateStore.seen l.s in
    (xs : List Item) → IsState v.now.state → AreRefsOf v l.items xs → pending v.now.state xs ≡ pending v.now.state (drop l.k xs)
