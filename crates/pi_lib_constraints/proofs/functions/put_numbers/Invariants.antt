use Rattle.std.proofs.Common.{map, ◌+ℤ◌, ◌-◌, pos}
use Rattle.pi_constraints.specs.Domain.{numbers_from}
use Rattle.pi_constraints.specs.Store.{IsTerm, Stays}
use Rattle.pi_effects.specs.Items.{list_onto}
use Rattle.pi_terms.specs.Tree.{Tree, int}
use Rattle.pi_lib_constraints.proofs.functions.put_numbers.Given as goal

-- the numbers from one on are put
abbrev pub invariant-loop-k : goal.invariant-loop-k
invariant-loop-k g l =
    let v = g.S.StateStore.seen l.fn.s in
    let w = g.S.StateStore.seen l.s in
    record {
      stays : Stays v w;
      list : (t : Tree) → IsTerm v l.fn.rest t → IsTerm w l.list (list_onto (map int (numbers_from (l.fn.low +ℤ pos l.k) (l.fn.count - l.k))) t);
    }
