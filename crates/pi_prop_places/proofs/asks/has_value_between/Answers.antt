use Rattle.std.proofs.Common.{rules, arith, ◌≡◌, pos, List, subst, sym, ◌∙◌, false, neg_ℤ, length, nat_lt, slice_index_or, to_z, of_z}
use Rattle.std.specs.Prelude.{int_le}
use Rattle.std.specs.Int.{w128}
use Rattle.std.proofs.lemmas.Int.{ints}
use Rattle.std.proofs.lemmas.Bool.{false≢true}
use Rattle.std.proofs.lemmas.Bool.Decides.{nat_tests}
use Rattle.std.proofs.lemmas.List.Sorted.{IsPartitionPoint-from_clause}
use Rattle.pi_constraints.specs.declared.domain.TheConstants.{MAX_VALUE}
use Rattle.pi_constraints.specs.declared.domain.Span.{Span}
use Rattle.pi_constraints.specs.Domain.{IsDomain}
use Rattle.pi_constraints.proofs.ExtremeLemmas.{ends_below, IsPartitionedBy-ends_below, AscendFrom-get_or}
use Rattle.pi_prop_places.specs.Reads.{HasValueBetween}
use Rattle.pi_prop_places.proofs.AskLemmas.{between_found, between_nowhere}
use Rattle.pi_prop_places.proofs.asks.has_value_between.Goals as goal

abbrev blank : Span
blank = record { lo = pos 0; hi = pos 0 }

pub returns-then-at-spans : goal.returns-then-at-spans
returns-then-at-spans c =
    let spans : IsDomain c.spans-spans.result.now = subst IsDomain (sym c.spans-spans.ensures.all) c.spans-spans.ensures.domain in
    let parted = IsPartitionedBy-ends_below (neg_ℤ MAX_VALUE) c.spans-spans.result.now c.args.lo spans in
    let point = IsPartitionPoint-from_clause (ends_below c.args.lo) _ _ c.partition_point-at.ensures.partitioned parted (λ a r q k. search (rules, ints)) in
    let span = AscendFrom-get_or (neg_ℤ MAX_VALUE) c.spans-spans.result.now c.partition_point-at.result blank spans c.if-at-spans.true in
    let start : to_z w128 (of_z w128 c.from.result) ≡ (slice_index_or c.spans-spans.result.now c.partition_point-at.result blank).lo = omega (arith, ints, span.from, span.ordered, span.bounded) in
    let number : to_z w128 (of_z w128 c.args.hi) ≡ c.args.hi = omega (arith, ints) in
    let order = c.if-hi-lo.false in
    let found = between_found c.spans-spans.result.now c.partition_point-at.result c.args.lo c.args.hi blank spans point c.if-at-spans.true (omega (arith, ints)) in
    let same : int_le (to_z w128 (of_z w128 c.from.result)) (to_z w128 (of_z w128 c.args.hi)) ≡ int_le (slice_index_or c.spans-spans.result.now c.partition_point-at.result blank).lo c.args.hi = (λ i. int_le (start i) (number i)) in (
      λ t. subst (λ (d : List Span). HasValueBetween d c.args.lo c.args.hi) c.spans-spans.ensures.all (found.0 (sym same ∙ t)),
      λ h. same ∙ found.1 (subst (λ (d : List Span). HasValueBetween d c.args.lo c.args.hi) (sym c.spans-spans.ensures.all) h),
    )

pub returns-else-at-spans : goal.returns-else-at-spans
returns-else-at-spans c =
    let spans : IsDomain c.spans-spans.result.now = subst IsDomain (sym c.spans-spans.ensures.all) c.spans-spans.ensures.domain in
    let parted = IsPartitionedBy-ends_below (neg_ℤ MAX_VALUE) c.spans-spans.result.now c.args.lo spans in
    let point = IsPartitionPoint-from_clause (ends_below c.args.lo) _ _ c.partition_point-at.ensures.partitioned parted (λ a r q k. search (rules, ints)) in
    let none = between_nowhere c.spans-spans.result.now c.partition_point-at.result c.args.lo c.args.hi blank point c.if-at-spans.false in
    let outside : nat_lt c.partition_point-at.result (length c.spans-spans.result.now) ≡ false = grind (arith, nat_tests) in
    (λ t. absurd (false≢true (sym outside ∙ t)), λ h. absurd (none (subst (λ (d : List Span). HasValueBetween d c.args.lo c.args.hi) (sym c.spans-spans.ensures.all) h)))
