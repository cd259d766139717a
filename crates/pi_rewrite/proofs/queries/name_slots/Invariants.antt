use Rattle.pi_rewrite.proofs.NameLemmas.{NamedTo}
use Rattle.pi_rewrite.proofs.queries.name_slots.Given as goal

abbrev pub invariant-loop-name : goal.invariant-loop-name
invariant-loop-name l = NamedTo l.names l.name-index l.initial.slots l.slots l.made
