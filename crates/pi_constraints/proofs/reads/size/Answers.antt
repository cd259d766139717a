use Rattle.std.proofs.Common.{arith, ◌≡◌, ◌<◌, ◌+◌, ℕ, suc, get_or, length, List, pos, neg_ℤ, take, subst, ap, sym, ◌∙◌, refl}
use Rattle.std.specs.Int.{int_gap}
use Rattle.std.proofs.lemmas.Int.{ints}
use Rattle.std.proofs.lemmas.List.{take_all}
use Rattle.pi_constraints.specs.declared.domain.TheConstants.{MAX_VALUE}
use Rattle.pi_constraints.specs.declared.domain.Span.{Span}
use Rattle.pi_constraints.specs.Domain.{IsDomain, values_of, size_of}
use Rattle.pi_constraints.proofs.ExtremeLemmas.{AscendFrom-get_or}
use Rattle.pi_constraints.proofs.SizeLemmas.{size_of-take_more, size_of-take_fits}
use Rattle.pi_constraints.proofs.reads.size.Goals as goal

blank : Span
blank = record { lo = pos 0; hi = pos 0 }

pub loop-span-init : goal.loop-span-init
unfolding values_of
loop-span-init c = refl

pub width-count-requires : goal.width-count-requires
unfolding blank
width-count-requires c =
    let spans : IsDomain c.spans-span-items.result.now = subst IsDomain (sym c.spans-span-items.ensures.all) c.spans-span-items.ensures.domain in
    let span = AscendFrom-get_or (neg_ℤ MAX_VALUE) c.spans-span-items.result.now c.loop-span.span-index blank spans c.loop-span-test.true in
    record { ordered = span.ordered; low = (span.from, omega (arith, ints)); high = (omega (arith, ints), span.bounded) }

more : (count width k : ℕ) (ss : List Span) → count ≡ size_of (take k ss) → width ≡ suc (int_gap (get_or ss k blank).lo (get_or ss k blank).hi) → k < length ss → count + width ≡ size_of (take (k + 1) ss)
more count width k ss e w h = let step = size_of-take_more ss k blank h in omega arith

pub overflow_add-count : goal.overflow_add-count
unfolding blank
overflow_add-count c =
    let spans : IsDomain c.spans-span-items.result.now = subst IsDomain (sym c.spans-span-items.ensures.all) c.spans-span-items.ensures.domain in
    let step = more c.loop-span.count c.width-count.result c.loop-span.span-index c.spans-span-items.result.now c.loop-span.invariant c.width-count.ensures c.loop-span-test.true in
    let fits = size_of-take_fits c.spans-span-items.result.now (c.loop-span.span-index + 1) spans in
    omega arith

pub loop-span-preserved : goal.loop-span-preserved
unfolding blank
loop-span-preserved c = more c.loop-span.count c.width-count.result c.loop-span.span-index c.spans-span-items.result.now c.loop-span.invariant c.width-count.ensures c.loop-span-test.true

pub returns : goal.returns
returns c =
    c.loop-span.invariant ∙ (ap size_of (take_all c.loop-span.span-index c.spans-span-items.result.now c.loop-span-test.false) ∙ ap size_of c.spans-span-items.ensures.all)
