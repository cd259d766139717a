use Rattle.std.proofs.Common.{rules, ◌≡◌, ◌∙◌, ap, sym, subst, List, All}
use Rattle.std.proofs.lemmas.Int.{ints}
use Rattle.std.proofs.lemmas.Fn.{always_returns_same}
use Rattle.std.proofs.lemmas.List.Sorted.{All-permutation}
use Rattle.pi_constraints.specs.declared.domain.Span.{Span}
use Rattle.pi_constraints.specs.Domain.{has_value}
use Rattle.pi_prop_filters.specs.Spans.{IsSpan, AscendByStart}
use Rattle.pi_prop_filters.proofs.JoinLemmas.{sorted_ascend, has_value-moved}
use Rattle.pi_prop_filters.proofs.joins.domain_of.Goals as goal

pub joined-requires-clause-ascend : goal.joined-requires-clause-ascend
joined-requires-clause-ascend c =
    subst AscendByStart (sym c.as_slice.ensures.value)
    (sorted_ascend c.sort_unstable_by_key.new.self.items (c.sort_unstable_by_key.ensures.sorted (λ s. s.lo) (always_returns_same _ (λ a r. r ≡ a.0.now.lo) _ (λ a r q k. search (rules, ints)))))

pub joined-requires-clause-spans : goal.joined-requires-clause-spans
joined-requires-clause-spans c = subst (All IsSpan) (sym c.as_slice.ensures.value) (All-permutation IsSpan c.args.spans.items _ c.sort_unstable_by_key.ensures.permutation c.requires)

pub returns : goal.returns
returns c n =
    ap (λ (d : List Span). has_value d n) c.new.ensures
    ∙ (c.in_ok-joined.ensures.values n ∙ (ap (λ (d : List Span). has_value d n) c.as_slice.ensures.value ∙ has_value-moved c.args.spans.items _ n c.sort_unstable_by_key.ensures.permutation))
