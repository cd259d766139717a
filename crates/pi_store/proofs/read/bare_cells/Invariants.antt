use Rattle.std.proofs.Common.{◌-◌, length}
use Rattle.pi_terms.specs.Tree.{most_cells}
use Rattle.pi_store.specs.Read.{followed_words, IsReading}
use Rattle.pi_store.proofs.read.bare_cells.Given as goal

abbrev pub invariant-loop-at : goal.invariant-loop-at
invariant-loop-at l = IsReading l.names l.words (followed_words l.reading l.words.variables) l.fn.r l.read.items l.stack.items

abbrev pub decreases-loop-at : goal.decreases-loop-at
decreases-loop-at l = most_cells - length l.read.items
