use Rattle.pi_types.specs.TreeStoreWalks.{ListsBelow, HasChangedIn}
use Rattle.pi_types.proofs.tree_store.state.TreeState.changed_to.Given as goal

abbrev pub invariant-loop-n : goal.invariant-loop-n
invariant-loop-n l = ListsBelow (HasChangedIn l.self l.later) l.n l.found
