use Rattle.std.proofs.Common.{arith, sym, ◌∙◌}
use Rattle.pi_engine_code.proofs.LaidSizes.{counted-none, counted-more, counted-all}
use Rattle.pi_engine_code.proofs.build.sizes.counts_of.Goals as goal

pub loop-i-init : goal.loop-i-init
loop-i-init c = counted-none c.args.goal.now c.new-counts.result.items c.new-counts.ensures.items

pub loop-i-preserved : goal.loop-i-preserved
loop-i-preserved c =
    counted-more c.args.goal.now c.loop-i.counts.items c.push.new.self.items c.loop-i.i c.child_count.result c.loop-i.invariant (c.child_count.ensures ∙ sym c.node.ensures.has) c.in_ok-push.ensures.items

pub returns : goal.returns
returns c = record { ok = counted-all c.args.goal.now c.loop-i.counts.items c.loop-i.i c.loop-i.invariant (omega (arith, c.nodes-i-end.ensures)) }
