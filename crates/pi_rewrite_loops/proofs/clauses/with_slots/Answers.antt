-- One more slot.
use Rattle.pi_rewrite_loops.proofs.TermLemmas.{head-more, head-all}
use Rattle.pi_rewrite_loops.proofs.clauses.with_slots.Goals as goal

pub loop-preserved : goal.loop-preserved
loop-preserved c =
    head-more c.args.patterns.items c.loop.patterns.items c.push.new.self.items c.args.first c.args.count c.loop.counter c.loop.slot c.in_ok-slot.slot c.loop-test.true c.in_ok-push.ensures.items c.in_ok-slot.ensures c.loop.invariant

pub returns : goal.returns
returns c = head-all c.args.patterns.items c.loop.patterns.items c.args.first c.args.count c.loop.counter c.loop.slot c.loop-test.false c.loop.invariant
