use Rattle.pi_rewrite_slots.proofs.TermLemmas.{TermsSoFar, ItemsSoFar}
use Rattle.pi_rewrite_slots.proofs.terms.+standing.Given as goal

abbrev pub invariant-push_terms-loop-exp : goal.invariant-push_terms-loop-exp
invariant-push_terms-loop-exp l = TermsSoFar l.exps l.exp-index l.initial.slots l.slots l.initial.cells.items l.cells.items

abbrev pub invariant-push_items-loop-exp : goal.invariant-push_items-loop-exp
invariant-push_items-loop-exp l = ItemsSoFar l.exps l.exp-index l.initial.slots l.slots l.initial.cells.items l.cells.items
