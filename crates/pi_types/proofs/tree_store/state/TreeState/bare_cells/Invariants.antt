use Rattle.std.proofs.Common.{◌-◌, length}
use Rattle.pi_terms.specs.Tree.{most_cells}
use Rattle.pi_types.specs.TreeStoreRead.{IsReading}
use Rattle.pi_types.proofs.tree_store.state.TreeState.bare_cells.Given as goal

abbrev pub invariant-loop-at : goal.invariant-loop-at
invariant-loop-at l = IsReading l.atoms l.self l.fn.r l.read.items l.stack.items

abbrev pub decreases-loop-at : goal.decreases-loop-at
decreases-loop-at l = most_cells - length l.read.items
