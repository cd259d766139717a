-- One name more.
use Rattle.std.proofs.Common.{[], get_or, refl}
use Rattle.pi_terms.specs.Tree.{Tree}
use Rattle.pi_rewrite_loops.proofs.TermLemmas.{item-at}
use Rattle.pi_rewrite_loops.proofs.EntryLemmas.{written-more, written-trees, written-names}
use Rattle.pi_rewrite_loops.proofs.entries.written.Goals as goal

pub loop-name-preserved : goal.loop-name-preserved
loop-name-preserved c =
    written-more c.args.names.now c.args.slots.now c.loop-name.name-index c.in_ok-slot.slot (get_or c.args.names.now c.loop-name.name-index (record { ref_ptr = (0, 0); now = [] })) c.loop-name.slots c.slot_for.new.self c.loop-name.terms.items c.push_slot.new.terms.items (Tree.var c.in_ok-slot.slot)
    c.loop-name-test.true (item-at c.args.names.now c.loop-name.name-index (record { ref_ptr = (0, 0); now = [] }) c.loop-name-test.true) c.in_ok-slot.ensures.is c.in_ok-slot.ensures.slots refl c.in_ok-push_slot.ensures c.loop-name.invariant

pub returns-clause-are : goal.returns-clause-are
returns-clause-are c = written-trees c.args.names.now c.args.slots.now c.loop-name.name-index c.loop-name.slots c.loop-name.terms.items c.loop-name-test.false c.loop-name.invariant

pub returns-clause-slots : goal.returns-clause-slots
returns-clause-slots c = written-names c.args.names.now c.args.slots.now c.loop-name.name-index c.loop-name.slots c.loop-name.terms.items c.loop-name-test.false c.loop-name.invariant
