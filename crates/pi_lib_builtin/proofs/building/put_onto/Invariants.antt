use Rattle.std.proofs.Common.{List, drop}
use Rattle.pi_terms.specs.Tree.{Tree}
use Rattle.pi_constraints.specs.Store.{IsTerm, Stays}
use Rattle.pi_effects.specs.Items.{list_onto}
use Rattle.pi_lib_builtin.specs.Items.{AreItems}
use Rattle.pi_lib_builtin.proofs.building.put_onto.Given as goal

-- the items from one on stand in front of the rest
abbrev pub invariant-loop-i : goal.invariant-loop-i
invariant-loop-i g l =
    let v = g.S.StateStore.seen l.fn.s in
    let w = g.S.StateStore.seen l.s in
    record {
      stays : Stays v w;
      puts : (ts : List Tree) (t : Tree) → AreItems v l.items ts → IsTerm v l.fn.rest t → IsTerm w l.list (list_onto (drop l.i ts) t);
    }
