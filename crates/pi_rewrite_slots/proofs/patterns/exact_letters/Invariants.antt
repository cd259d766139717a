use Rattle.pi_rewrite_slots.proofs.PatternLemmas.{LetterForms}
use Rattle.pi_rewrite_slots.proofs.patterns.exact_letters.Given as goal

abbrev pub invariant-loop-letter : goal.invariant-loop-letter
invariant-loop-letter l = LetterForms l.letters l.letter-index l.items.items
