use Rattle.std.proofs.Common.{List}
use Rattle.pi_constraints.specs.declared.constraint.Item.{Item}
use Rattle.pi_constraints.specs.Domain.{IsDomain}
use Rattle.pi_constraints.specs.State.{IsState}
use Rattle.pi_constraints.specs.Store.{Keeps}
use Rattle.pi_lib_constraints.specs.Kept.{AreRefsOf, item_kept}
use Rattle.pi_lib_constraints.proofs.KeepLemmas.{SoFar}
use Rattle.pi_lib_constraints.proofs.keeping.keep_all.Given as goal

abbrev pub invariant-loop-k : goal.invariant-loop-k
invariant-loop-k g l =
    let v = g.S.StateStore.seen l.fn.s in
    let w = g.S.StateStore.seen l.s in
    record {
      keeps : Keeps v w;
      left : (xs : List Item) → IsState v.now.state → IsDomain l.kept → AreRefsOf v l.items xs → SoFar (item_kept l.wanted l.domain l.kept) xs l.k v.now.state w.now.state;
    }
