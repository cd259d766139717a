use Rattle.std.proofs.Common.{ℕ, List, sym, subst}
use Rattle.pi_terms.specs.RenamedCells.{IsKnown}
use Rattle.pi_terms.proofs.RenamedLemmas.{known_at}
use Rattle.pi_terms.proofs.term.renumbered.renumbered_cells.Goals as goal

pub renumbered-requires : goal.renumbered-requires
renumbered-requires c = record {
  known = subst (λ (ns : List ℕ). IsKnown ns c.cell-item.result) (sym c.requires.known) (known_at c.args.cells.now c.loop-cell.cell-index c.cell-item.result c.loop-cell-test.true c.cell-item.is);
}
