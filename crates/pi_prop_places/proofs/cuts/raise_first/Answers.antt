use Rattle.std.proofs.Common.{rules, arith, ◌<◌, subst, sym, ◌≤ℤ◌, int_le, length, w64, FitsSigned, ℤ, ◌≡◌, ◌<ℤ◌, get_or}
use Rattle.std.specs.Int.{w128}
use Rattle.std.proofs.lemmas.Int.{ints, to_z-of_z}
use Rattle.pi_constraints.specs.declared.domain.Span.{Span}
use Rattle.pi_prop_places.proofs.NarrowedCuts.{none_there, raised_is, raised_has, raised_none}
use Rattle.pi_prop_places.proofs.HoleLemmas.{ends_within, within_span, bounds_fit}
use Rattle.pi_prop_places.proofs.WideLemmas.{wide_above, lt_le, narrowed_back}
use Rattle.pi_prop_places.proofs.cuts.raise_first.Goals as goal

pub returns-then-is_empty-clause-values : goal.returns-then-is_empty-clause-values
returns-then-is_empty-clause-values c = none_there c.args.spans.now.items (λ m. int_le c.args.n m) (search rules)

pub returns-then-from-n-clause-domain : goal.returns-then-from-n-clause-domain
returns-then-from-n-clause-domain c =
    let some : 0 < length c.args.spans.now.items = search rules in
    let e = c.index.result.now in
    let here : e ≡ get_or c.args.spans.now.items 0 e = search rules in
    let ends = ends_within c.args.spans.now.items 0 e c.requires.domain some here in
    let low : e.lo ≤ℤ c.args.n = lt_le e.lo c.args.n (subst (λ (z : ℤ). e.lo <ℤ z) (to_z-of_z w128 c.args.n c.ranges.n) (wide_above _ e.lo c.from.result ends.0 c.from.ensures c.if-from-n.true)) in
    let below : c.args.n ≤ℤ c.index.result.now.hi = subst (λ (x : Span). c.args.n ≤ℤ x.hi) (sym c.index.ensures) (c.requires.first c.index.result.now some) in
    let is = within_span c.args.spans.now.items 0 e c.args.n c.requires.domain some here low below in
    raised_is c.args.spans.now.items c.index.result.now c.args.n _ _ c.requires.domain some here low below (narrowed_back c.args.n c.ranges.n is) (to_z-of_z w64 e.hi (bounds_fit e.hi ends.1))

pub returns-then-from-n-clause-values : goal.returns-then-from-n-clause-values
returns-then-from-n-clause-values c =
    let some : 0 < length c.args.spans.now.items = search rules in
    let e = c.index.result.now in
    let here : e ≡ get_or c.args.spans.now.items 0 e = search rules in
    let ends = ends_within c.args.spans.now.items 0 e c.requires.domain some here in
    let low : e.lo ≤ℤ c.args.n = lt_le e.lo c.args.n (subst (λ (z : ℤ). e.lo <ℤ z) (to_z-of_z w128 c.args.n c.ranges.n) (wide_above _ e.lo c.from.result ends.0 c.from.ensures c.if-from-n.true)) in
    let below : c.args.n ≤ℤ c.index.result.now.hi = subst (λ (x : Span). c.args.n ≤ℤ x.hi) (sym c.index.ensures) (c.requires.first c.index.result.now some) in
    let is = within_span c.args.spans.now.items 0 e c.args.n c.requires.domain some here low below in
    raised_has c.args.spans.now.items c.index.result.now c.args.n _ _ c.requires.domain some here low below (narrowed_back c.args.n c.ranges.n is) (to_z-of_z w64 e.hi (bounds_fit e.hi ends.1))

pub returns-else-from-n-clause-values : goal.returns-else-from-n-clause-values
returns-else-from-n-clause-values c =
    let l : FitsSigned w64 c.index.result.now.lo = search rules in
    raised_none c.args.spans.now.items c.index.result.now c.args.n c.requires.domain (search rules) (omega (arith, ints))
