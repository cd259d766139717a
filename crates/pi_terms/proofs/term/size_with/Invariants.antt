use Rattle.std.proofs.Common.{◌≡◌, ◌+◌, take}
use Rattle.pi_terms.specs.Tree.{trees_of, cells_all}
use Rattle.pi_terms.proofs.term.size_with.Given as goal

abbrev pub invariant-loop-arg : goal.invariant-loop-arg
invariant-loop-arg l = l.size ≡ cells_all (trees_of (take l.arg-index l.args)) + 1
