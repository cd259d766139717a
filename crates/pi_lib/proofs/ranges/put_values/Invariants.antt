use Rattle.std.proofs.Common.{◌-◌}
use Rattle.pi_constraints.specs.Store.{IsTerm, Stays}
use Rattle.pi_effects.specs.Items.{list_of}
use Rattle.pi_effects.specs.Ranges.{values_by}
use Rattle.pi_lib.specs.Steps.{value_after}
use Rattle.pi_lib.proofs.ranges.put_values.Given as goal

abbrev pub invariant-loop-k : goal.invariant-loop-k
invariant-loop-k g l =
    let v = g.S.StateStore.seen l.fn.s in
    let w = g.S.StateStore.seen l.s in
    record {
      stays : Stays v w;
      list : IsTerm w l.list (list_of (values_by (l.count - l.k) (value_after l.low l.step l.k) l.step));
    }
