use Rattle.std.proofs.Common.{arith}
use Rattle.pi_store_blocks.proofs.DomainLemmas.{span_written}
use Rattle.pi_store_blocks.proofs.domains.write.append_spans.Goals as goal

pub loop-span-preserved : goal.loop-span-preserved
loop-span-preserved c = span_written _ _ _ c.args.spans.now c.loop-span.span-index _ (omega arith) c.loop-span.invariant c.in_ok-append_span.ensures.ok
