use Rattle.pi_rewrite_slots.specs.Indexed.{names_in}
use Rattle.pi_rewrite_sites.proofs.NameLemmas.{ThoseTo}
use Rattle.pi_rewrite_sites.proofs.names.those.Given as goal

abbrev pub invariant-loop-name : goal.invariant-loop-name
invariant-loop-name l = ThoseTo l.are_among (names_in l.some) l.names l.name-index (names_in l.made.items)
