use Rattle.std.proofs.Common.{rules, arith, ◌≡◌, ◌<◌, ◌-◌, ◌+◌, ℕ, List, subst, sym, ◌≤ℤ◌, int_le, length, w64, FitsSigned, ℤ, ◌<ℤ◌}
use Rattle.std.specs.Int.{w128}
use Rattle.std.proofs.lemmas.Int.{ints, to_z-of_z}
use Rattle.pi_constraints.specs.declared.domain.Span.{Span}
use Rattle.pi_prop_places.proofs.NarrowedCuts.{none_there, lowered_is, lowered_has, lowered_none}
use Rattle.pi_prop_places.proofs.HoleLemmas.{ends_within, within_span, bounds_fit}
use Rattle.pi_prop_places.proofs.WideLemmas.{wide_below, lt_le, narrowed_back}
use Rattle.pi_prop_places.proofs.cuts.lower_last.Goals as goal

last_of : (ss : List Span) (n : ℕ) → n ≡ length ss → 0 < n → (n - 1) + 1 ≡ length ss
last_of ss n e l = omega arith

pub returns-then-is_empty-clause-values : goal.returns-then-is_empty-clause-values
returns-then-is_empty-clause-values c = none_there c.args.spans.now.items (λ m. int_le m c.args.n) (search rules)

pub returns-then-n-from-clause-domain : goal.returns-then-n-from-clause-domain
returns-then-n-from-clause-domain c =
    let e = c.index.result.now in
    let k = c.len-last.result - 1 in
    let at : (c.len-last.result - 1) + 1 ≡ length c.args.spans.now.items = last_of c.args.spans.now.items c.len-last.result (search rules) (search rules) in
    let above : c.index.result.now.lo ≤ℤ c.args.n = subst (λ (x : Span). x.lo ≤ℤ c.args.n) (sym c.index.ensures) (c.requires.last (c.len-last.result - 1) c.index.result.now at) in
    let ends = ends_within c.args.spans.now.items k e c.requires.domain (omega arith) c.index.ensures in
    let top : c.args.n ≤ℤ e.hi = lt_le c.args.n e.hi (subst (λ (z : ℤ). z <ℤ e.hi) (to_z-of_z w128 c.args.n c.ranges.n) (wide_below _ e.hi c.from.result ends.1 c.from.ensures c.if-n-from.true)) in
    let is = within_span c.args.spans.now.items k e c.args.n c.requires.domain (omega arith) c.index.ensures above top in
    lowered_is c.args.spans.now.items (c.len-last.result - 1) c.index.result.now c.args.n _ _ c.requires.domain at c.index.ensures above top (to_z-of_z w64 e.lo (bounds_fit e.lo ends.0)) (narrowed_back c.args.n c.ranges.n is)

pub returns-then-n-from-clause-values : goal.returns-then-n-from-clause-values
returns-then-n-from-clause-values c =
    let e = c.index.result.now in
    let k = c.len-last.result - 1 in
    let at : (c.len-last.result - 1) + 1 ≡ length c.args.spans.now.items = last_of c.args.spans.now.items c.len-last.result (search rules) (search rules) in
    let above : c.index.result.now.lo ≤ℤ c.args.n = subst (λ (x : Span). x.lo ≤ℤ c.args.n) (sym c.index.ensures) (c.requires.last (c.len-last.result - 1) c.index.result.now at) in
    let ends = ends_within c.args.spans.now.items k e c.requires.domain (omega arith) c.index.ensures in
    let top : c.args.n ≤ℤ e.hi = lt_le c.args.n e.hi (subst (λ (z : ℤ). z <ℤ e.hi) (to_z-of_z w128 c.args.n c.ranges.n) (wide_below _ e.hi c.from.result ends.1 c.from.ensures c.if-n-from.true)) in
    let is = within_span c.args.spans.now.items k e c.args.n c.requires.domain (omega arith) c.index.ensures above top in
    lowered_has c.args.spans.now.items (c.len-last.result - 1) c.index.result.now c.args.n _ _ c.requires.domain at c.index.ensures above top (to_z-of_z w64 e.lo (bounds_fit e.lo ends.0)) (narrowed_back c.args.n c.ranges.n is)

pub returns-else-n-from-clause-values : goal.returns-else-n-from-clause-values
returns-else-n-from-clause-values c =
    let h : FitsSigned w64 c.index.result.now.hi = search rules in
    let at : (c.len-last.result - 1) + 1 ≡ length c.args.spans.now.items = last_of c.args.spans.now.items c.len-last.result (search rules) (search rules) in
    lowered_none c.args.spans.now.items (c.len-last.result - 1) c.index.result.now c.args.n c.requires.domain at c.index.ensures (omega (arith, ints))
