-- One more slot.
use Rattle.std.proofs.Common.{refl}
use Rattle.pi_terms.specs.Tree.{Tree}
use Rattle.pi_rewrite_loops.proofs.TermLemmas.{slots-more, slots-all}
use Rattle.pi_rewrite_loops.proofs.terms.push_slots.Goals as goal

pub loop-preserved : goal.loop-preserved
loop-preserved c =
    slots-more c.args.terms.now.items c.loop.terms.items c.push_slot.new.terms.items c.args.first c.args.count c.loop.counter c.loop.slot c.in_ok-slot.slot (Tree.var c.loop.slot) c.loop-test.true refl c.in_ok-push_slot.ensures c.in_ok-slot.ensures c.loop.invariant

pub returns : goal.returns
returns c = slots-all c.args.terms.now.items c.loop.terms.items c.args.first c.args.count c.loop.counter c.loop.slot c.loop-test.false c.loop.invariant
