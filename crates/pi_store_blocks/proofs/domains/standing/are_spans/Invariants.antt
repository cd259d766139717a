use Rattle.std.proofs.Common.{◌≡◌, ◌*◌, drop}
use Rattle.pi_store_blocks.specs.Domain.{is_domain, ascend_from, spans_of}
use Rattle.pi_store_blocks.proofs.domains.standing.are_spans.Given as goal

abbrev pub invariant-loop-k : goal.invariant-loop-k
invariant-loop-k l = is_domain (spans_of l.block) ≡ ascend_from l.least (spans_of (drop (2 * l.k) l.block))
