use Rattle.std.proofs.Common.{◌≡◌, ◌<◌, ◌≤◌, length}
use Rattle.pi_constraints.specs.Store.{Stays}
use Rattle.pi_unify.specs.Copying.{AreListed}
use Rattle.pi_unify.proofs.CopyingLemmas.{Copying}
use Rattle.pi_unify.proofs.copying.put_copies.Given as goal

abbrev pub invariant-loop-i : goal.invariant-loop-i
invariant-loop-i g l =
    let v = g.S.StateStore.seen l.initial.s in
    let w = g.S.StateStore.seen l.s in
    record {
      stays : Stays v w;
      within : l.i ≤ length l.refs;
      some : l.i < length l.refs → 0 < length l.built.items;
      known : AreListed v l.initial.numbers l.refs → l.numbers ≡ l.initial.numbers;
      copying : AreListed v l.initial.numbers l.refs → Copying v w l.initial.numbers l.refs l.i l.built.items;
    }

abbrev pub decreases-loop-i : goal.decreases-loop-i
decreases-loop-i g l = l.i
