use Rattle.std.proofs.Common.{◌≡◌, map, take}
use Rattle.pi_terms.specs.Copy.{place_in}
use Rattle.pi_terms.specs.RenamedCells.{renamed_cell}
use Rattle.pi_terms.proofs.term.renumbered.renumbered_cells.Given as goal

abbrev pub invariant-loop-cell : goal.invariant-loop-cell
invariant-loop-cell l = l.made.items ≡ map (renamed_cell (place_in l.numbers)) (take l.cell-index l.cells)
