use Rattle.pi_constraints.specs.State.{bindings}
use Rattle.pi_constraints.specs.Store.{IsTerm}
use Rattle.pi_settling.specs.Asked.{flat_items}
use Rattle.pi_terms.specs.Tree.{Tree}
use Rattle.pi_unify.specs.Terms.{HoldsNoCycle}
use Rattle.pi_lib_constraints.specs.Flattened.{IsFlattened}
use Rattle.pi_lib_constraints.proofs.flattening.leaves.Given as goal

abbrev pub invariant-loop : goal.invariant-loop
invariant-loop g l =
    let v = g.S.StateStore.seen l.s in
    (t : Tree) → HoldsNoCycle v → IsTerm v l.fn.term t → IsFlattened v l.found.items l.left.items (flat_items (bindings v.now.state) t)
