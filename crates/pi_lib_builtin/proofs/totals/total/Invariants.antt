use Rattle.std.proofs.Common.{◌≡◌, List, drop}
use Rattle.pi_terms.specs.Tree.{Tree}
use Rattle.pi_effects.specs.Collections.{total}
use Rattle.pi_unify.specs.Terms.{HoldsNoCycle}
use Rattle.pi_lib_builtin.specs.Items.{AreItems}
use Rattle.pi_lib_builtin.proofs.totals.total.Given as goal

-- the integers before one are joined
abbrev pub invariant-loop-item : goal.invariant-loop-item
invariant-loop-item g l =
    let v = g.S.StateStore.seen l.s in
    (ts : List Tree) → HoldsNoCycle v → AreItems v l.items ts → total l.op v.now.state l.fn.first ts ≡ total l.op v.now.state l.sum (drop l.item-index ts)
