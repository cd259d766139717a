use Rattle.pi_rewrite_slots.proofs.CellLemmas.{CopiesTo}
use Rattle.pi_rewrite_slots.proofs.terms.list_onto.Given as goal

abbrev pub invariant-loop-item : goal.invariant-loop-item
invariant-loop-item l = CopiesTo l.items l.item-index l.cells.items
