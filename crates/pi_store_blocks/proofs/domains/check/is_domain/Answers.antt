use Rattle.std.proofs.Common.{◌<◌, ◌≤◌, length, to_z, sym, ◌∙◌, arith}
use Rattle.std.specs.Int.{w64}
use Rattle.std.proofs.lemmas.Int.{ints}
use Rattle.pi_store_blocks.proofs.DomainLemmas.{goes_on, refused, accepted, ends_low}
use Rattle.pi_store_blocks.proofs.domains.check.is_domain.Goals as goal

pub overflow_add-least : goal.overflow_add-least
overflow_add-least c =
    let low = ends_low (to_z w64 c.loop-span.least-bits) _ (sym c.may_follow.ensures ∙ c.if-not-may_follow.false) in
    omega (arith, ints, low)

pub loop-span-preserved : goal.loop-span-preserved
loop-span-preserved c =
    let within : c.loop-span.span-index < length c.args.spans.now = omega arith in
    let low = ends_low (to_z w64 c.loop-span.least-bits) _ (sym c.may_follow.ensures ∙ c.if-not-may_follow.false) in
    goes_on c.args.spans.now c.loop-span.span-index (to_z w64 c.loop-span.least-bits) _ _ within (sym c.may_follow.ensures ∙ c.if-not-may_follow.false) (omega (arith, ints, low)) c.loop-span.invariant

pub returns-then-not-may_follow : goal.returns-then-not-may_follow
returns-then-not-may_follow c =
    let within : c.loop-span.span-index < length c.args.spans.now = omega arith in
    refused c.args.spans.now c.loop-span.span-index (to_z w64 c.loop-span.least-bits) _ within (sym c.may_follow.ensures ∙ c.if-not-may_follow.true) c.loop-span.invariant

pub returns : goal.returns
returns c =
    let past : length c.args.spans.now ≤ c.loop-span.span-index = omega arith in
    accepted c.args.spans.now c.loop-span.span-index (to_z w64 c.loop-span.least-bits) past c.loop-span.invariant
