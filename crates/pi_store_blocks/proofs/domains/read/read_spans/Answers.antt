use Rattle.std.proofs.Common.{◌≡◌, ◌+◌, ◌*◌, ◌<◌, ◌≤◌, length, arith}
use Rattle.pi_store_blocks.proofs.DomainLemmas.{read_more, read_all}
use Rattle.pi_store_blocks.proofs.domains.read.read_spans.Goals as goal

pub loop-k-preserved : goal.loop-k-preserved
loop-k-preserved c =
    let within : 2 * c.loop-k.k + 1 < length c.args.block.now = omega arith in
    read_more c.args.block.now c.loop-k.k c.loop-k.spans.items c.push.new.self.items c.read_span.result c.in_ok-push.ensures.items c.read_span.ensures within c.loop-k.invariant

pub returns : goal.returns
returns c =
    let past : length c.args.block.now ≤ 2 * c.loop-k.k + 1 = omega arith in
    read_all c.args.block.now c.loop-k.k c.loop-k.spans.items past c.loop-k.invariant
