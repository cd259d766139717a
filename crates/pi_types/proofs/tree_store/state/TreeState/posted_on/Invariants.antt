use Rattle.std.specs.Prelude.{IsTrue}
use Rattle.pi_types.specs.TreeStoreWalks.{ListsBelow, posted_in}
use Rattle.pi_types.proofs.tree_store.state.TreeState.posted_on.Given as goal

abbrev pub invariant-loop-i : goal.invariant-loop-i
invariant-loop-i l = ListsBelow (λ i. IsTrue (posted_in l.self l.v i)) l.i l.found
