use Rattle.std.proofs.Common.{rules, arith, ◌≡◌, pos, List, subst, ap, sym, ◌∙◌, false, neg_ℤ, ℤ, length, nat_lt, slice_index_or, to_z, of_z}
use Rattle.std.specs.Int.{w128}
use Rattle.std.specs.Prelude.{int_le}
use Rattle.std.proofs.lemmas.Bool.Decides.{nat_tests}
use Rattle.std.proofs.lemmas.Int.{ints}
use Rattle.std.proofs.lemmas.List.Sorted.{IsPartitionPoint-from_clause}
use Rattle.pi_constraints.specs.declared.domain.TheConstants.{MAX_VALUE}
use Rattle.pi_constraints.specs.declared.domain.Span.{Span}
use Rattle.pi_constraints.specs.Domain.{IsDomain, has_value}
use Rattle.pi_constraints.proofs.ExtremeLemmas.{ends_below, IsPartitionedBy-ends_below, has_value-at, has_value-nowhere, AscendFrom-get_or}
use Rattle.pi_constraints.proofs.reads.contains.Goals as goal

abbrev blank : Span
blank = record { lo = pos 0; hi = pos 0 }

pub returns-then-at-spans : goal.returns-then-at-spans
returns-then-at-spans c =
    let spans : IsDomain c.spans-spans.result.now = subst IsDomain (sym c.spans-spans.ensures.all) c.spans-spans.ensures.domain in
    let parted = IsPartitionedBy-ends_below (neg_ℤ MAX_VALUE) c.spans-spans.result.now c.args.n spans in
    let point = IsPartitionPoint-from_clause (ends_below c.args.n) _ _ c.partition_point-at.ensures.partitioned parted (λ a r q k. search (rules, ints)) in
    let found = has_value-at c.spans-spans.result.now c.partition_point-at.result c.args.n spans point c.if-at-spans.true blank in
    let span = AscendFrom-get_or (neg_ℤ MAX_VALUE) c.spans-spans.result.now c.partition_point-at.result blank spans c.if-at-spans.true in
    let start : to_z w128 (of_z w128 c.from.result) ≡ (slice_index_or c.spans-spans.result.now c.partition_point-at.result blank).lo = omega (arith, ints, span.from, span.ordered, span.bounded) in
    let number : to_z w128 (of_z w128 c.args.n) ≡ c.args.n = omega (arith, ints) in
    ap (λ (z : ℤ). int_le z (to_z w128 (of_z w128 c.args.n))) start
    ∙ (ap (λ (z : ℤ). int_le (slice_index_or c.spans-spans.result.now c.partition_point-at.result blank).lo z) number
    ∙ (sym found ∙ ap (λ (ss : List Span). has_value ss c.args.n) c.spans-spans.ensures.all))

pub returns-else-at-spans : goal.returns-else-at-spans
returns-else-at-spans c =
    let spans : IsDomain c.spans-spans.result.now = subst IsDomain (sym c.spans-spans.ensures.all) c.spans-spans.ensures.domain in
    let parted = IsPartitionedBy-ends_below (neg_ℤ MAX_VALUE) c.spans-spans.result.now c.args.n spans in
    let point = IsPartitionPoint-from_clause (ends_below c.args.n) _ _ c.partition_point-at.ensures.partitioned parted (λ a r q k. search (rules, ints)) in
    let none = has_value-nowhere c.spans-spans.result.now c.partition_point-at.result c.args.n point c.if-at-spans.false in
    let outside : nat_lt c.partition_point-at.result (length c.spans-spans.result.now) ≡ false = grind (arith, nat_tests) in
    outside ∙ (sym none ∙ ap (λ (ss : List Span). has_value ss c.args.n) c.spans-spans.ensures.all)
