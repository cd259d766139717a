-- One variable more.
use Rattle.std.proofs.Common.{[], get_or}
use Rattle.pi_rewrite_loops.specs.Helpers.{ending_of}
use Rattle.pi_rewrite_loops.proofs.TermLemmas.{item-at}
use Rattle.pi_rewrite_loops.proofs.EndLemmas.{closed-more, closed-all}
use Rattle.pi_rewrite_loops.proofs.ends.push_ends.Goals as goal

pub loop-name-preserved : goal.loop-name-preserved
loop-name-preserved c =
    closed-more (ending_of c.args.ending) c.args.names.now c.args.variable c.args.free c.args.slots.now c.args.goals.now.items c.loop-name.goals.items c.push_ended.new.goals.items c.loop-name.name-index c.loop-name.at c.loop-name.next c.in_ok-slot.slot c.in_ok-at.at c.in_ok-next.next (get_or c.args.names.now c.loop-name.name-index (record { ref_ptr = (0, 0); now = [] }))
    c.loop-name-test.true (item-at c.args.names.now c.loop-name.name-index (record { ref_ptr = (0, 0); now = [] }) c.loop-name-test.true) c.in_ok-slot.ensures c.in_ok-push_ended.ensures c.in_ok-at.ensures c.in_ok-next.ensures c.loop-name.invariant

pub returns : goal.returns
returns c =
    closed-all (ending_of c.args.ending) c.args.names.now c.args.variable c.args.free c.args.slots.now c.args.goals.now.items c.loop-name.goals.items c.loop-name.name-index c.loop-name.at c.loop-name.next c.loop-name-test.false c.loop-name.invariant
