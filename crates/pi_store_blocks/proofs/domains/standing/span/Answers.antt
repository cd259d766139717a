use Rattle.std.proofs.Common.{arith}
use Rattle.pi_store_blocks.proofs.StandingLemmas.{span-read, no-span-read}
use Rattle.pi_store_blocks.proofs.domains.standing.span.Goals as goal

pub returns-then-k-len : goal.returns-then-k-len
returns-then-k-len c = no-span-read c.at-block.result _ c.args.k _ c.at-block.ensures (omega (arith, c.if-k-len.true, c.len.ensures))

pub returns : goal.returns
returns c = span-read c.at-block.result _ c.args.k c.read_span.result c.at-block.ensures c.read_span.ensures (omega (arith, c.if-k-len.false, c.len.ensures))
