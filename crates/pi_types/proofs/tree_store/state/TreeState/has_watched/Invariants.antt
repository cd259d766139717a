use Rattle.std.proofs.Common.{◌↔◌, drop, length}
use Rattle.pi_types.specs.TreeStoreWalks.{AllWatchedBelow}
use Rattle.pi_types.proofs.tree_store.state.TreeState.has_watched.Given as goal

abbrev pub invariant-loop-watch : goal.invariant-loop-watch
invariant-loop-watch l = AllWatchedBelow (length l.self.terms) (drop l.watch-index l.watches) ↔ AllWatchedBelow (length l.self.terms) l.watches
