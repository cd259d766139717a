use Rattle.pi_rewrite_slots.specs.Indexed.{names_in}
use Rattle.pi_rewrite_sites.proofs.UnitLemmas.{PatternsTo}
use Rattle.pi_rewrite_sites.proofs.units.push_patterns.Given as goal

abbrev pub invariant-loop-unit : goal.invariant-loop-unit
invariant-loop-unit l = PatternsTo (names_in l.initial.names.items) l.units l.unit-index (names_in l.names.items)
