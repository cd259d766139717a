use Rattle.pi_rewrite_loops.proofs.EntryLemmas.{WrittenTo}
use Rattle.pi_rewrite_loops.proofs.entries.written.Given as goal

abbrev pub invariant-loop-name : goal.invariant-loop-name
invariant-loop-name l = WrittenTo l.names l.initial.slots l.name-index l.slots l.terms.items
