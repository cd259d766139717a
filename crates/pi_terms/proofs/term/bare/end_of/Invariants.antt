use Rattle.std.proofs.Common.{◌≡◌, ◌≤◌, drop, length}
use Rattle.pi_terms.specs.Tree.{drop_trees}
use Rattle.pi_terms.specs.TermCells.{flat_all, spelled}
use Rattle.pi_terms.proofs.term.bare.end_of.Given as goal

abbrev pub invariant-loop-k : goal.invariant-loop-k
invariant-loop-k l = (drop l.at l.cells ≡ flat_all (drop_trees l._k (spelled (drop l.from l.cells)))) × (l.at ≤ length l.cells)
