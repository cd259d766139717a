use Rattle.std.proofs.Common.{ap, ◌/◌}
use Rattle.pi_store_blocks.proofs.StandingLemmas.{count-read, none-read}
use Rattle.pi_store_blocks.proofs.domains.standing.span_count.Goals as goal

pub returns-then-are_spans : goal.returns-then-are_spans
returns-then-are_spans c = count-read c.at-block.result _ c.are_spans.result _ c.at-block.ensures c.are_spans.ensures c.if-are_spans.true (ap (λ n. n / 2) c.len.ensures)

pub returns : goal.returns
returns c = none-read c.at-block.result _ c.are_spans.result c.at-block.ensures c.are_spans.ensures c.if-are_spans.false
