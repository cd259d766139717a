use Rattle.std.proofs.Common.{◌+◌}
use Rattle.pi_core.specs.CoreTree.{pattern_tree}
use Rattle.pi_unify.specs.Terms.{IsGiven, HoldsNoCycle, term_of}
use Rattle.pi_unify.specs.Matching.{HoldAllGiven, FillsEmpty, AreWithin, nodes, nodes_left}
use Rattle.pi_unify.proofs.MatchLoopLemmas.{Goes}
use Rattle.pi_unify.proofs.matching.match_nested.Given as goal

abbrev pub invariant-loop-left : goal.invariant-loop-left
invariant-loop-left g l =
    let v = g.S.StateStore.seen l.s in
    record {
      within : AreWithin l.left.items;
      fills : FillsEmpty l.initial.slots.items l.slots.items;
      goes : IsGiven v l.fn.r → HoldsNoCycle v → HoldAllGiven v l.initial.slots.items → Goes v l.left.items l.at (pattern_tree l.fn.p) (term_of v l.fn.r) l.initial.slots.items l.slots.items;
    }

abbrev pub decreases-loop-left : goal.decreases-loop-left
decreases-loop-left g l = nodes (pattern_tree l.at.pattern.now) + nodes_left l.left.items
