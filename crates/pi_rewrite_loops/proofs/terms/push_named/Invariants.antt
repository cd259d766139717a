use Rattle.pi_rewrite_loops.proofs.TermLemmas.{NamedTo}
use Rattle.pi_rewrite_loops.proofs.terms.push_named.Given as goal

abbrev pub invariant-loop-name : goal.invariant-loop-name
invariant-loop-name l = NamedTo l.initial.terms.items l.names l.slots l.name-index l.terms.items
