use Rattle.std.proofs.Common.{rules, arith, ◌≡◌, List, true, subst, sym, ◌∙◌, ap, ℤ, neg_ℤ, ◌≤ℤ◌, ◌<ℤ◌, to_z, of_z, get_or, pos}
use Rattle.std.specs.Int.{w64}
use Rattle.std.proofs.lemmas.Int.{ints}
use Rattle.std.proofs.lemmas.List.Sorted.{IsPartitionPoint-from_clause}
use Rattle.std.proofs.lemmas.Option.{slice_get-get_or}
use Rattle.pi_constraints.specs.declared.domain.TheConstants.{MAX_VALUE}
use Rattle.pi_constraints.specs.declared.domain.Span.{Span}
use Rattle.pi_constraints.specs.Domain.{IsWithinBounds, IsDomain, has_value}
use Rattle.pi_constraints.proofs.ExtremeLemmas.{ends_below, IsPartitionedBy-ends_below, has_value-nowhere}
use Rattle.pi_agent.proofs.LossLemmas.{value-end, value-behind, span-within, at-most, below}
use Rattle.pi_agent.proofs.losses.end_of_values.Goals as goal

abbrev blank : Span
blank = record { lo = pos 0; hi = pos 0 }

pub returns-then-at-spans : goal.returns-then-at-spans
returns-then-at-spans c =
    let spans : IsDomain c.spans-spans.result.now = subst IsDomain (sym c.spans-spans.ensures.all) c.spans-spans.ensures.domain in
    let parted = IsPartitionedBy-ends_below (neg_ℤ MAX_VALUE) c.spans-spans.result.now c.args.n spans in
    let point = IsPartitionPoint-from_clause (ends_below c.args.n) _ _ c.partition_point-at.ensures.partitioned parted (λ a r q k. search (rules, ints)) in
    ap (λ (d : List Span). has_value d c.args.n) (sym c.spans-spans.ensures.all) ∙ has_value-nowhere c.spans-spans.result.now c.partition_point-at.result c.args.n point c.if-at-spans.true

pub returns-then-span-n : goal.returns-then-span-n
returns-then-span-n c =
    let spans : IsDomain c.spans-spans.result.now = subst IsDomain (sym c.spans-spans.ensures.all) c.spans-spans.ensures.domain in
    let parted = IsPartitionedBy-ends_below (neg_ℤ MAX_VALUE) c.spans-spans.result.now c.args.n spans in
    let point = IsPartitionPoint-from_clause (ends_below c.args.n) _ _ c.partition_point-at.ensures.partitioned parted (λ a r q k. search (rules, ints)) in
    let s : Span = get_or c.spans-spans.result.now c.partition_point-at.result blank in
    let there = slice_get-get_or c.spans-spans.result.now c.partition_point-at.result blank c.if-at-spans.false in
    let in-span = span-within c.spans-spans.result.now c.partition_point-at.result spans c.if-at-spans.false blank in
    let start : to_z w64 (of_z w64 s.lo) ≡ s.lo = omega (arith, ints, in-span.0.0, in-span.0.1) in
    let n : to_z w64 (of_z w64 c.args.n) ≡ c.args.n = omega (arith, ints) in
    let low : s.lo ≤ℤ c.args.n = at-most _ _ s.lo c.args.n c.if-span-n.true start n in
    let h = subst (λ (d : List Span). (c.args.n ≤ℤ s.hi) × IsWithinBounds s.hi × ((m : ℤ) → c.args.n ≤ℤ m → m ≤ℤ s.hi → has_value d m ≡ true)) c.spans-spans.ensures.all
    (value-end c.spans-spans.result.now c.partition_point-at.result c.args.n s spans point there low) in
    let number : to_z w64 (of_z w64 s.hi) ≡ s.hi = omega (arith, ints, in-span.1.0, in-span.1.1) in
    subst (λ (z : ℤ). (c.args.n ≤ℤ z) × IsWithinBounds z × ((m : ℤ) → c.args.n ≤ℤ m → m ≤ℤ z → has_value c.args.d.now m ≡ true)) (sym number) h

pub returns : goal.returns
returns c =
    let spans : IsDomain c.spans-spans.result.now = subst IsDomain (sym c.spans-spans.ensures.all) c.spans-spans.ensures.domain in
    let parted = IsPartitionedBy-ends_below (neg_ℤ MAX_VALUE) c.spans-spans.result.now c.args.n spans in
    let point = IsPartitionPoint-from_clause (ends_below c.args.n) _ _ c.partition_point-at.ensures.partitioned parted (λ a r q k. search (rules, ints)) in
    let s : Span = get_or c.spans-spans.result.now c.partition_point-at.result blank in
    let there = slice_get-get_or c.spans-spans.result.now c.partition_point-at.result blank c.if-at-spans.false in
    let in-span = span-within c.spans-spans.result.now c.partition_point-at.result spans c.if-at-spans.false blank in
    let start : to_z w64 (of_z w64 s.lo) ≡ s.lo = omega (arith, ints, in-span.0.0, in-span.0.1) in
    let n : to_z w64 (of_z w64 c.args.n) ≡ c.args.n = omega (arith, ints) in
    let low : c.args.n <ℤ s.lo = below _ _ s.lo c.args.n c.if-span-n.false start n in
    ap (λ (d : List Span). has_value d c.args.n) (sym c.spans-spans.ensures.all) ∙ value-behind c.spans-spans.result.now c.partition_point-at.result c.args.n s spans point there low
