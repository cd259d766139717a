-- One name more.
use Rattle.std.proofs.Common.{[], get_or}
use Rattle.pi_rewrite_loops.proofs.TermLemmas.{item-at}
use Rattle.pi_rewrite_loops.proofs.EndLemmas.{kept-more, kept-all}
use Rattle.pi_rewrite_loops.proofs.entries.push_kept.Goals as goal

pub loop-name-preserved : goal.loop-name-preserved
loop-name-preserved c =
    kept-more c.args.names.now c.args.variable c.args.slots.now c.args.goals.now.items c.loop-name.goals.items c.push_of_slot.new.goals.items c.loop-name.name-index c.loop-name.from c.in_ok-into.into c.in_ok-from.from (get_or c.args.names.now c.loop-name.name-index (record { ref_ptr = (0, 0); now = [] }))
    c.loop-name-test.true (item-at c.args.names.now c.loop-name.name-index (record { ref_ptr = (0, 0); now = [] }) c.loop-name-test.true) c.in_ok-into.ensures c.in_ok-push_of_slot.ensures c.in_ok-from.ensures c.loop-name.invariant

pub returns : goal.returns
returns c = kept-all c.args.names.now c.args.variable c.args.slots.now c.args.goals.now.items c.loop-name.goals.items c.loop-name.name-index c.loop-name.from c.loop-name-test.false c.loop-name.invariant
