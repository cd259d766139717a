-- One more unit.
use Rattle.pi_rewrite_slots.specs.Indexed.{names_in}
use Rattle.pi_rewrite_sites.proofs.UnitLemmas.{patterns-more, patterns-end}
use Rattle.pi_rewrite_sites.proofs.units.push_patterns.Goals as goal

pub loop-unit-preserved : goal.loop-unit-preserved
loop-unit-preserved c =
    patterns-more (names_in c.args.names.now.items) c.args.units.now c.loop-unit.unit-index c.unit-item.result (names_in c.loop-unit.names.items) (names_in c.push_pattern.new.names.items) c.loop-unit-test.true c.unit-item.is c.in_ok-push_pattern.ensures c.loop-unit.invariant

pub returns : goal.returns
returns c = patterns-end (names_in c.args.names.now.items) c.args.units.now c.loop-unit.unit-index (names_in c.loop-unit.names.items) c.loop-unit-test.false c.loop-unit.invariant
