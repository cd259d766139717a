use Rattle.std.proofs.Common.{List}
use Rattle.pi_terms.specs.Tree.{Tree}
use Rattle.pi_constraints.specs.Store.{IsTerm, Stays}
use Rattle.pi_effects.specs.Items.{list_of}
use Rattle.pi_lib_builtin.specs.Items.{AreItems}
use Rattle.pi_lib_builtin.proofs.BuildLemmas.{pairs_from}
use Rattle.pi_lib_builtin.proofs.joining.put_pairs.Given as goal

-- the pairs from one place on stand in the list
abbrev pub invariant-loop-i : goal.invariant-loop-i
invariant-loop-i g l =
    let v = g.S.StateStore.seen l.fn.s in
    let w = g.S.StateStore.seen l.s in
    record {
      stays : Stays v w;
      puts : (ts us : List Tree) → AreItems v l.items ts → AreItems v l.others us → IsTerm w l.list (list_of (pairs_from l.i ts us));
    }
