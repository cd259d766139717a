use Rattle.pi_terms.specs.TermCells.{tree_of}
use Rattle.pi_terms.proofs.RenamedLemmas.{renumbered_spells}
use Rattle.pi_terms.proofs.term.renumbered.copied_cells.Goals as goal

pub returns : goal.returns
returns c = record {
  ok = renumbered_spells c.args.cells.now c.in_ok-made.made.items c.in_ok-numbers.numbers (tree_of c.args.cells.now) c.requires.spells c.in_ok-numbers.ensures.ok c.in_ok-made.ensures.ok;
}
