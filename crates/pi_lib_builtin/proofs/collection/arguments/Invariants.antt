use Rattle.std.proofs.Common.{List, take}
use Rattle.pi_terms.specs.Tree.{Tree}
use Rattle.pi_unify.specs.Terms.{HoldsNoCycle}
use Rattle.pi_lib_builtin.specs.Items.{AreItems, HasItems}
use Rattle.pi_lib_builtin.specs.declared.collection.Collection.{Collection}
use Rattle.pi_lib_builtin.proofs.collection.arguments.Given as goal

-- the arguments before one were found
abbrev pub invariant-loop-i : goal.invariant-loop-i
invariant-loop-i g l =
    let v = g.S.StateStore.seen l.s in
    (ts : List Tree) → HoldsNoCycle v → HasItems v (Collection.Arguments l.term l.count) ts → AreItems v l.items.items (take l.i ts)
