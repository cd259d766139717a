use Rattle.pi_rewrite_loops.proofs.TermLemmas.{HeadTo}
use Rattle.pi_rewrite_loops.proofs.clauses.with_slots.Given as goal

abbrev pub invariant-loop : goal.invariant-loop
invariant-loop l = HeadTo l.fn.patterns.items l.fn.first l.count l.counter l.slot l.patterns.items
