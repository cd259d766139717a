use Rattle.std.proofs.Common.{◌≡◌, ◌+◌, ◌*◌, ◌<◌, ◌≤◌, true, false, length, to_z, sym, ◌∙◌, arith}
use Rattle.std.specs.Int.{w64}
use Rattle.std.proofs.lemmas.Int.{ints}
use Rattle.pi_store_blocks.specs.Domain.{may_follow}
use Rattle.pi_store_blocks.proofs.StandingLemmas.{end_within, tested_more, tested_past, tested_whole}
use Rattle.pi_store_blocks.proofs.domains.standing.are_spans.Goals as goal

pub loop-k-preserved : goal.loop-k-preserved
loop-k-preserved c =
    let within : 2 * c.loop-k.k + 1 < length c.args.block.now = omega arith in
    let may : may_follow (to_z w64 c.loop-k.least-bits) c.read_span-span.result ≡ true = sym c.may_follow.ensures ∙ c.if-not-may_follow.false in
    let ends = end_within c.args.block.now c.loop-k.k (to_z w64 c.loop-k.least-bits) c.read_span-span.result c.read_span-span.ensures may in
    tested_more c.args.block.now c.loop-k.k (to_z w64 c.loop-k.least-bits) _ c.read_span-span.result within c.read_span-span.ensures may (omega (arith, ints, ends.0, ends.1)) c.loop-k.invariant

pub returns-then-not-may_follow : goal.returns-then-not-may_follow
returns-then-not-may_follow c =
    let within : 2 * c.loop-k.k + 1 < length c.args.block.now = omega arith in
    let past : may_follow (to_z w64 c.loop-k.least-bits) c.read_span-span.result ≡ false = sym c.may_follow.ensures ∙ c.if-not-may_follow.true in
    tested_past c.args.block.now c.loop-k.k (to_z w64 c.loop-k.least-bits) c.read_span-span.result within c.read_span-span.ensures past c.loop-k.invariant

pub returns : goal.returns
returns c =
    let past : length c.args.block.now ≤ 2 * c.loop-k.k + 1 = omega arith in
    tested_whole c.args.block.now c.loop-k.k (to_z w64 c.loop-k.least-bits) past c.loop-k.invariant
