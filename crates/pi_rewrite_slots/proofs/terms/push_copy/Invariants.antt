use Rattle.pi_rewrite_slots.proofs.CellLemmas.{CopiedTo}
use Rattle.pi_rewrite_slots.proofs.terms.push_copy.Given as goal

abbrev pub invariant-loop-i : goal.invariant-loop-i
invariant-loop-i l = CopiedTo l.fn.cells.items l.cells.items l.term l.i
