use Rattle.std.proofs.Common.{◌≡◌, List, take, map}
use Rattle.std.specs.Prelude.{Some}
use Rattle.pi_constraints.specs.State.{bindings}
use Rattle.pi_constraints.specs.Value.{value}
use Rattle.pi_lib_builtin.specs.Items.{AreItems}
use Rattle.pi_settling.specs.RightSide.{integers_of}
use Rattle.pi_terms.specs.Tree.{Tree}
use Rattle.pi_unify.specs.Terms.{HoldsNoCycle}
use Rattle.pi_lib_constraints.proofs.sides.numbers_at.Given as goal

abbrev pub invariant-loop-k : goal.invariant-loop-k
invariant-loop-k g l =
    let v = g.S.StateStore.seen l.s in
    (ts : List Tree) → HoldsNoCycle v → AreItems v l.items ts → integers_of (map (value (bindings v.now.state)) (take l.k ts)) ≡ Some l.numbers.items
