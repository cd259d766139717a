use Rattle.std.proofs.Common.{rules, ◌≡◌, ◌<◌, ℤ, ◌≤ℤ◌, length, get_or, w64, to_z, of_z, FitsSigned, subst, sym, ap, ◌∙◌}
use Rattle.std.specs.Int.{w128}
use Rattle.std.proofs.lemmas.Int.{to_z-of_z}
use Rattle.pi_constraints.specs.declared.domain.Span.{Span}
use Rattle.pi_constraints.specs.Domain.{has_value}
use Rattle.std.specs.Prelude.{not, ◌&&◌}
use Rattle.std.specs.Ordering.{int_eq}
use Rattle.pi_prop_places.proofs.HoleLemmas.{none_behind, next_above, at_any, within_span, ends_within, bounds_fit}
use Rattle.pi_prop_places.proofs.WideLemmas.{wide_below, wide_not_below}
use Rattle.pi_prop_places.proofs.holes.drop_one.Goals as goal

pub returns-then-at-len-clause-values : goal.returns-then-at-len-clause-values
returns-then-at-len-clause-values c =
    let n : to_z w128 (of_z w128 c.args.n) ≡ c.args.n = to_z-of_z w128 c.args.n c.ranges.n in
    subst (λ (z : ℤ). (m : ℤ) → has_value c.args.spans.now.items m ≡ (has_value c.args.spans.now.items m && not (int_eq m z))) n
    (none_behind c.args.spans.now.items c.count_below-at.result (to_z w128 (of_z w128 c.args.n)) (search rules) (rw c.as_slice.ensures.value at c.count_below-at.ensures.same))

pub returns-then-n-from-clause-values : goal.returns-then-n-from-clause-values
returns-then-n-from-clause-values c =
    let n : to_z w128 (of_z w128 c.args.n) ≡ c.args.n = to_z-of_z w128 c.args.n c.ranges.n in
    let inside : c.count_below-at.result < length c.args.spans.now.items = search rules in
    let ends = ends_within c.args.spans.now.items c.count_below-at.result c.index.result.now c.requires inside c.index.ensures in
    subst (λ (z : ℤ). (m : ℤ) → has_value c.args.spans.now.items m ≡ (has_value c.args.spans.now.items m && not (int_eq m z))) n
    (next_above c.args.spans.now.items c.count_below-at.result c.index.result.now (to_z w128 (of_z w128 c.args.n)) c.requires inside c.index.ensures (wide_below (to_z w128 (of_z w128 c.args.n)) c.index.result.now.lo c.from.result ends.0 c.from.ensures c.if-n-from.true) (rw c.as_slice.ensures.value at c.count_below-at.ensures.same))

pub overflow_cast-n : goal.overflow_cast-n
overflow_cast-n c =
    let n : to_z w128 (of_z w128 c.args.n) ≡ c.args.n = to_z-of_z w128 c.args.n c.ranges.n in
    let inside : c.count_below-at.result < length c.args.spans.now.items = search rules in
    let ends = ends_within c.args.spans.now.items c.count_below-at.result c.index.result.now c.requires inside c.index.ensures in
    let low : c.index.result.now.lo ≤ℤ c.args.n = subst (λ (z : ℤ). c.index.result.now.lo ≤ℤ z) n (wide_not_below (to_z w128 (of_z w128 c.args.n)) c.index.result.now.lo c.from.result ends.0 c.from.ensures c.if-n-from.false) in
    let next = rw c.as_slice.ensures.value at c.count_below-at.ensures.next in
    let high : c.args.n ≤ℤ c.index.result.now.hi = subst (λ (x : Span). c.args.n ≤ℤ x.hi) (sym c.index.ensures) (subst (λ (z : ℤ). z ≤ℤ (get_or c.args.spans.now.items c.count_below-at.result c.index.result.now).hi) n (next c.index.result.now inside)) in
    let within = within_span c.args.spans.now.items c.count_below-at.result c.index.result.now c.args.n c.requires inside c.index.ensures low high in
    let fits : FitsSigned w64 c.args.n = bounds_fit c.args.n within in
    subst (FitsSigned w64) (sym n) fits

pub drop_from-requires-clause-low : goal.drop_from-requires-clause-low
drop_from-requires-clause-low c = λ e.
    let n : to_z w128 (of_z w128 c.args.n) ≡ c.args.n = to_z-of_z w128 c.args.n c.ranges.n in
    let inside : c.count_below-at.result < length c.args.spans.now.items = search rules in
    let ends = ends_within c.args.spans.now.items c.count_below-at.result c.index.result.now c.requires inside c.index.ensures in
    let low : c.index.result.now.lo ≤ℤ c.args.n = subst (λ (z : ℤ). c.index.result.now.lo ≤ℤ z) n (wide_not_below (to_z w128 (of_z w128 c.args.n)) c.index.result.now.lo c.from.result ends.0 c.from.ensures c.if-n-from.false) in
    let next = rw c.as_slice.ensures.value at c.count_below-at.ensures.next in
    let high : c.args.n ≤ℤ c.index.result.now.hi = subst (λ (x : Span). c.args.n ≤ℤ x.hi) (sym c.index.ensures) (subst (λ (z : ℤ). z ≤ℤ (get_or c.args.spans.now.items c.count_below-at.result c.index.result.now).hi) n (next c.index.result.now inside)) in
    let within = within_span c.args.spans.now.items c.count_below-at.result c.index.result.now c.args.n c.requires inside c.index.ensures low high in
    let fits : FitsSigned w64 c.args.n = bounds_fit c.args.n within in
    let same : to_z w64 (of_z w64 (to_z w128 (of_z w128 c.args.n))) ≡ c.args.n = ap (λ (z : ℤ). to_z w64 (of_z w64 z)) n ∙ to_z-of_z w64 c.args.n fits in
    subst (λ (z : ℤ). (get_or c.args.spans.now.items c.count_below-at.result e).lo ≤ℤ z) (sym same)
    (subst (λ (x : Span). x.lo ≤ℤ c.args.n) (c.index.ensures ∙ at_any c.args.spans.now.items c.count_below-at.result c.index.result.now e inside) low)

pub drop_from-requires-clause-high : goal.drop_from-requires-clause-high
drop_from-requires-clause-high c = λ e.
    let n : to_z w128 (of_z w128 c.args.n) ≡ c.args.n = to_z-of_z w128 c.args.n c.ranges.n in
    let inside : c.count_below-at.result < length c.args.spans.now.items = search rules in
    let ends = ends_within c.args.spans.now.items c.count_below-at.result c.index.result.now c.requires inside c.index.ensures in
    let low : c.index.result.now.lo ≤ℤ c.args.n = subst (λ (z : ℤ). c.index.result.now.lo ≤ℤ z) n (wide_not_below (to_z w128 (of_z w128 c.args.n)) c.index.result.now.lo c.from.result ends.0 c.from.ensures c.if-n-from.false) in
    let next = rw c.as_slice.ensures.value at c.count_below-at.ensures.next in
    let high : c.args.n ≤ℤ c.index.result.now.hi = subst (λ (x : Span). c.args.n ≤ℤ x.hi) (sym c.index.ensures) (subst (λ (z : ℤ). z ≤ℤ (get_or c.args.spans.now.items c.count_below-at.result c.index.result.now).hi) n (next c.index.result.now inside)) in
    let within = within_span c.args.spans.now.items c.count_below-at.result c.index.result.now c.args.n c.requires inside c.index.ensures low high in
    let fits : FitsSigned w64 c.args.n = bounds_fit c.args.n within in
    let same : to_z w64 (of_z w64 (to_z w128 (of_z w128 c.args.n))) ≡ c.args.n = ap (λ (z : ℤ). to_z w64 (of_z w64 z)) n ∙ to_z-of_z w64 c.args.n fits in
    subst (λ (z : ℤ). z ≤ℤ (get_or c.args.spans.now.items c.count_below-at.result e).hi) (n ∙ sym same) (next e inside)

pub returns-clause-values : goal.returns-clause-values
returns-clause-values c =
    let n : to_z w128 (of_z w128 c.args.n) ≡ c.args.n = to_z-of_z w128 c.args.n c.ranges.n in
    let inside : c.count_below-at.result < length c.args.spans.now.items = search rules in
    let ends = ends_within c.args.spans.now.items c.count_below-at.result c.index.result.now c.requires inside c.index.ensures in
    let low : c.index.result.now.lo ≤ℤ c.args.n = subst (λ (z : ℤ). c.index.result.now.lo ≤ℤ z) n (wide_not_below (to_z w128 (of_z w128 c.args.n)) c.index.result.now.lo c.from.result ends.0 c.from.ensures c.if-n-from.false) in
    let next = rw c.as_slice.ensures.value at c.count_below-at.ensures.next in
    let high : c.args.n ≤ℤ c.index.result.now.hi = subst (λ (x : Span). c.args.n ≤ℤ x.hi) (sym c.index.ensures) (subst (λ (z : ℤ). z ≤ℤ (get_or c.args.spans.now.items c.count_below-at.result c.index.result.now).hi) n (next c.index.result.now inside)) in
    let within = within_span c.args.spans.now.items c.count_below-at.result c.index.result.now c.args.n c.requires inside c.index.ensures low high in
    let fits : FitsSigned w64 c.args.n = bounds_fit c.args.n within in
    let same : to_z w64 (of_z w64 (to_z w128 (of_z w128 c.args.n))) ≡ c.args.n = ap (λ (z : ℤ). to_z w64 (of_z w64 z)) n ∙ to_z-of_z w64 c.args.n fits in
    subst (λ (z : ℤ). (m : ℤ) → has_value c.drop_from.new.spans.items m ≡ (has_value c.args.spans.now.items m && not (int_eq m z))) same c.in_ok-drop_from.ensures.values
