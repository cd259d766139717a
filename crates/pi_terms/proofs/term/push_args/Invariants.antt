use Rattle.std.proofs.Common.{◌≡◌, ◌++◌, take}
use Rattle.pi_terms.specs.Tree.{trees_of}
use Rattle.pi_terms.specs.TermCells.{flat_all}
use Rattle.pi_terms.proofs.term.push_args.Given as goal

abbrev pub invariant-loop-arg : goal.invariant-loop-arg
invariant-loop-arg l = l.cells.items ≡ l.initial.cells.items ++ flat_all (trees_of (take l.arg-index l.args))
