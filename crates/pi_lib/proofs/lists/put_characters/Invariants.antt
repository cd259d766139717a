use Rattle.std.proofs.Common.{drop}
use Rattle.pi_constraints.specs.Store.{IsTerm, Stays}
use Rattle.pi_lib.proofs.TextLists.{list_for}
use Rattle.pi_lib.proofs.lists.put_characters.Given as goal

abbrev pub invariant-loop-k : goal.invariant-loop-k
invariant-loop-k g l =
    let v = g.S.StateStore.seen l.fn.s in
    let w = g.S.StateStore.seen l.s in
    record {
      stays : Stays v w;
      list : IsTerm w l.list (list_for (drop l.k l.characters.items));
    }
