use Rattle.pi_rewrite_slots.specs.Indexed.{names_in}
use Rattle.pi_rewrite.proofs.TellLemmas.{ToldTo}
use Rattle.pi_rewrite.proofs.telling.told.Given as goal

abbrev pub invariant-loop-name : goal.invariant-loop-name
invariant-loop-name l = ToldTo l.names l.name-index (names_in l.told.items)
