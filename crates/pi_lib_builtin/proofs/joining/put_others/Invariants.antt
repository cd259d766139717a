use Rattle.std.proofs.Common.{List, drop}
use Rattle.pi_terms.specs.Tree.{Tree}
use Rattle.pi_constraints.specs.Store.{IsTerm, Stays}
use Rattle.pi_effects.specs.Items.{list_of}
use Rattle.pi_effects.specs.Collections.{without}
use Rattle.pi_unify.specs.Terms.{HoldsNoCycle}
use Rattle.pi_lib_builtin.specs.Items.{AreItems}
use Rattle.pi_lib_builtin.proofs.joining.put_others.Given as goal

-- of the items from one on, those that differ stand in the list
abbrev pub invariant-loop-i : goal.invariant-loop-i
invariant-loop-i g l =
    let v = g.S.StateStore.seen l.fn.s in
    let w = g.S.StateStore.seen l.s in
    record {
      stays : Stays v w;
      puts : (ts : List Tree) (u : Tree) → HoldsNoCycle v → AreItems v l.items ts → IsTerm v l.term u → IsTerm w l.list (list_of (without v.now.state u (drop l.i ts)));
    }
