-- One more part.
use Rattle.std.proofs.Common.{max, ap, ◌∙◌}
use Rattle.pi_rewrite.proofs.LengthLemmas.{head-more, head-end}
use Rattle.pi_rewrite.proofs.naming.longest_head.Goals as goal

pub loop-part-preserved : goal.loop-part-preserved
loop-part-preserved c =
    head-more c.args.parts.now c.loop-part.part-index c.part-item.result c.args.least c.loop-part.most c.max-most.result c.loop-part-test.true c.part-item.is (c.max-most.ensures ∙ ap (max c.loop-part.most) c.head_length.ensures) c.loop-part.invariant

pub returns : goal.returns
returns c = head-end c.args.parts.now c.loop-part.part-index c.args.least c.loop-part.most c.loop-part-test.false c.loop-part.invariant
