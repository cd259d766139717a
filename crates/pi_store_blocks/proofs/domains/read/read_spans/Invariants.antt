use Rattle.std.proofs.Common.{◌≡◌, ◌*◌, ◌++◌, drop}
use Rattle.pi_store_blocks.specs.Domain.{spans_of}
use Rattle.pi_store_blocks.proofs.domains.read.read_spans.Given as goal

abbrev pub invariant-loop-k : goal.invariant-loop-k
invariant-loop-k l = l.spans.items ++ spans_of (drop (2 * l.k) l.block) ≡ spans_of l.block
