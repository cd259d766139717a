use Rattle.std.proofs.Common.{◌≡◌, take}
use Rattle.pi_terms.specs.Variables.{firsts}
use Rattle.pi_terms.specs.RenamedCells.{variables_at}
use Rattle.pi_terms.proofs.term.renumbered.numbers_of.Given as goal

abbrev pub invariant-loop-cell : goal.invariant-loop-cell
invariant-loop-cell l = l.numbers ≡ firsts (variables_at (take l.cell-index l.cells))
