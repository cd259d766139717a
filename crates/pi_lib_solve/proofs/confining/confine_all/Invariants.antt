use Rattle.std.proofs.Common.{◌≡◌, List, take}
use Rattle.pi_constraints.specs.declared.constraint.Item.{Item}
use Rattle.pi_constraints.specs.State.{IsState}
use Rattle.pi_constraints.specs.Store.{Keeps}
use Rattle.pi_lib_constraints.specs.Kept.{AreRefsOf}
use Rattle.pi_settling.specs.Confined.{confined}
use Rattle.pi_settling.specs.Roots.{all_values}
use Rattle.pi_lib_solve.proofs.confining.confine_all.Given as goal

abbrev pub invariant-loop-k : goal.invariant-loop-k
invariant-loop-k g l =
    let v = g.S.StateStore.seen l.fn.s in
    let w = g.S.StateStore.seen l.s in
    record {
      keeps : Keeps v w;
      state : (xs : List Item) → IsState v.now.state → l.default ≡ all_values → AreRefsOf v l.items xs → w.now.state ≡ confined v.now.state (take l.k xs);
    }
