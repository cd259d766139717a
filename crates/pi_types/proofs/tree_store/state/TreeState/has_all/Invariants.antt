use Rattle.std.proofs.Common.{◌↔◌, drop, length}
use Rattle.pi_types.specs.TreeStoreWalks.{AllBelow}
use Rattle.pi_types.proofs.tree_store.state.TreeState.has_all.Given as goal

abbrev pub invariant-loop-r : goal.invariant-loop-r
invariant-loop-r l = AllBelow (length l.self.terms) (drop l.r-index l.terms) ↔ AllBelow (length l.self.terms) l.terms
