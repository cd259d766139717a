use Rattle.std.proofs.Common.{◌-◌, length}
use Rattle.pi_terms.specs.Tree.{most_cells}
use Rattle.pi_unify.specs.Terms.{IsGiven, HoldsNoCycle}
use Rattle.pi_unify.specs.Copying.{HasNone, Listing}
use Rattle.pi_unify.proofs.copying.list_nodes.Given as goal

abbrev pub invariant-loop-at : goal.invariant-loop-at
invariant-loop-at g l =
    let v = g.S.StateStore.seen l.s in
    HasNone l.initial.nodes → IsGiven v l.fn.r → HoldsNoCycle v → Listing v l.nodes.refs.items l.nodes.numbers l.nodes.left.items l.at l.fn.r

abbrev pub decreases-loop-at : goal.decreases-loop-at
decreases-loop-at g l = most_cells - length l.nodes.refs.items
