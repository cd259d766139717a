use Rattle.pi_rewrite_slots.proofs.CellLemmas.{LettersTo}
use Rattle.pi_rewrite_slots.proofs.terms.push_letters.Given as goal

abbrev pub invariant-loop-letter : goal.invariant-loop-letter
invariant-loop-letter l = LettersTo l.letters l.letter-index l.fn.cells.items l.cells.items
