use Rattle.std.proofs.Common.{List, take, reverse}
use Rattle.pi_terms.specs.Tree.{Tree}
use Rattle.pi_constraints.specs.Store.{IsTerm, Stays}
use Rattle.pi_effects.specs.Items.{list_of}
use Rattle.pi_lib_builtin.specs.Items.{AreItems}
use Rattle.pi_lib_builtin.proofs.joining.put_reversed.Given as goal

-- the items before one stand in the list, the newest first
abbrev pub invariant-loop-item : goal.invariant-loop-item
invariant-loop-item g l =
    let v = g.S.StateStore.seen l.fn.s in
    let w = g.S.StateStore.seen l.s in
    record {
      stays : Stays v w;
      puts : (ts : List Tree) → AreItems v l.items ts → IsTerm w l.list (list_of (reverse (take l.item-index ts)));
    }
