use Rattle.pi_rewrite_slots.specs.Indexed.{names_in}
use Rattle.pi_rewrite_sites.proofs.NameLemmas.{BehindTo}
use Rattle.pi_rewrite_sites.proofs.names.put_behind.Given as goal

abbrev pub invariant-loop-name : goal.invariant-loop-name
invariant-loop-name l = BehindTo (names_in l.initial.before.items) l.names l.name-index (names_in l.before.items)
