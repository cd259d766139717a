use Rattle.std.proofs.Common.{List}
use Rattle.pi_terms.specs.Tree.{Tree}
use Rattle.pi_unify.specs.Terms.{HoldsNoCycle}
use Rattle.pi_lib_builtin.specs.Items.{AreItems}
use Rattle.pi_lib.proofs.ExtremeLemmas.{IsBest}
use Rattle.pi_lib.proofs.extremes.extreme.Given as goal

-- the best of the items before one
abbrev pub invariant-loop-i : goal.invariant-loop-i
invariant-loop-i g l =
    let v = g.S.StateStore.seen l.s in
    (ts : List Tree) → HoldsNoCycle v → AreItems v l.items ts → IsBest v l.end ts l.i l.best
