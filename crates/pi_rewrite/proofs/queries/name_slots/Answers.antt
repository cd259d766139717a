-- One more name.
use Rattle.std.proofs.Common.{[]}
use Rattle.pi_rewrite.proofs.NameLemmas.{named-more, named-all, behind-all}
use Rattle.pi_rewrite.proofs.queries.name_slots.Goals as goal

pub loop-name-preserved : goal.loop-name-preserved
loop-name-preserved c =
    named-more c.args.names.now c.loop-name.name-index (record { ref_ptr = (0, 0); now = [] }) c.args.slots.now c.loop-name.slots c.slot_for.new.self c.loop-name.made c.push.new.self
    (record { name = c.in_ok-name.name; slot = c.in_ok-slot.slot }) c.loop-name-test.true c.in_ok-name.ensures.ok c.in_ok-slot.ensures.is c.in_ok-slot.ensures.slots c.in_ok-push.ensures.ok c.loop-name.invariant

pub returns-clause-are : goal.returns-clause-are
returns-clause-are c = named-all c.args.names.now c.loop-name.name-index c.args.slots.now c.loop-name.slots c.loop-name.made c.loop-name-test.false c.loop-name.invariant

pub returns-clause-slots : goal.returns-clause-slots
returns-clause-slots c = behind-all c.args.names.now c.loop-name.name-index c.args.slots.now c.loop-name.slots c.loop-name.made c.loop-name-test.false c.loop-name.invariant
