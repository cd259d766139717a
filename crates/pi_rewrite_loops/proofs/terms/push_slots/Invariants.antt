use Rattle.pi_rewrite_loops.proofs.TermLemmas.{SlotsTo}
use Rattle.pi_rewrite_loops.proofs.terms.push_slots.Given as goal

abbrev pub invariant-loop : goal.invariant-loop
invariant-loop l = SlotsTo l.initial.terms.items l.fn.first l.count l.counter l.slot l.terms.items
