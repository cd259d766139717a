use Rattle.std.proofs.Common.{◌≡◌, ℕ, ◌<◌, take}
use Rattle.pi_constraints.specs.Constraint.{HoldVariable}
use Rattle.pi_constraints.specs.State.{IsState, next}
use Rattle.pi_constraints.specs.Store.{Keeps}
use Rattle.pi_settling.specs.Confined.{confined}
use Rattle.pi_settling.specs.Roots.{all_values}
use Rattle.pi_lib_constraints.proofs.posting.confine_items.Given as goal

abbrev pub invariant-loop-k : goal.invariant-loop-k
invariant-loop-k g l =
    let v = g.S.StateStore.seen l.fn.s in
    let w = g.S.StateStore.seen l.s in
    record {
      keeps : Keeps v w;
      state : IsState v.now.state → l.default ≡ all_values → ((n : ℕ) → HoldVariable l.items n → n < next v.now.state) → w.now.state ≡ confined v.now.state (take l.k l.items);
    }
