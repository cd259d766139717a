use Rattle.pi_rewrite_slots.proofs.PatternLemmas.{PatternsSoFar}
use Rattle.pi_rewrite_slots.proofs.patterns.+form.Given as goal

abbrev pub invariant-slot_patterns-loop-exp : goal.invariant-slot_patterns-loop-exp
invariant-slot_patterns-loop-exp l = PatternsSoFar l.exps l.exp-index l.initial.slots l.slots l.patterns.items
