use Rattle.std.proofs.Common.{◌≡◌, ◌∙◌, ℤ, sym, subst, to_z, of_z, FitsSigned, ◌≤ℤ◌}
use Rattle.std.specs.Int.{w64, w128}
use Rattle.std.proofs.lemmas.Bool.{false≢true}
use Rattle.std.proofs.lemmas.Int.{to_z-of_z}
use Rattle.pi_prop_spec.proofs.NumberLemmas.{trans}
use Rattle.pi_prop_places.proofs.OneLemmas.{nothing_between, only_above, only_below, hole_taken}
use Rattle.pi_prop_places.proofs.WideLemmas.{widened, wide_next, wide_before, wide_next_fits, wide_before_fits, at_most_is, above_lowest, below_highest}
use Rattle.pi_prop_places.proofs.keeps.take_between.Goals as goal

pub returns-then-not-has_between : goal.returns-then-not-has_between
returns-then-not-has_between g c =
    let low : to_z w128 (of_z w128 c.from.result) ≡ c.args.lo = widened c.args.lo c.from.result c.requires.low c.from.ensures in
    let high : to_z w128 (of_z w128 c.from-2.result) ≡ c.args.hi = widened c.args.hi c.from-2.result c.requires.high c.from-2.ensures in
    nothing_between (g.P.Places.domains c.args.places.now) c.args.k c.args.lo c.args.hi
    (λ h. false≢true (sym c.if-not-has_between.true ∙ c.has_between.ensures.1 (h.0, h.1, subst (λ (z : ℤ). z ≤ℤ h.0) (sym low) h.2, subst (λ (z : ℤ). h.0 ≤ℤ z) (sym high) h.3)))

pub overflow_add-from : goal.overflow_add-from
overflow_add-from g c = wide_next_fits c.args.hi c.from-then-lo-least.result c.requires.high c.from-then-lo-least.ensures

pub returns-then-lo-least : goal.returns-then-lo-least
returns-then-lo-least g c =
    let low = at_most_is c.args.lo c.least.result c.requires.low c.least.ensures.within c.if-lo-least.true in
    only_above (g.P.Places.domains c.args.places.now) _ c.args.k c.args.lo c.args.hi _ c.in_ok-cut_below.ensures c.least.ensures.spans (subst (λ (z : ℤ). c.args.lo ≤ℤ z) c.least.ensures.is low)
    (wide_next c.args.hi c.from-then-lo-least.result c.requires.high c.from-then-lo-least.ensures)

pub overflow_sub-from : goal.overflow_sub-from
overflow_sub-from g c = wide_before_fits c.args.lo c.from-then-greatest-hi.result c.requires.low c.from-then-greatest-hi.ensures

pub returns-then-greatest-hi : goal.returns-then-greatest-hi
returns-then-greatest-hi g c =
    let high = at_most_is c.greatest.result c.args.hi c.greatest.ensures.within c.requires.high c.if-greatest-hi.true in
    only_below (g.P.Places.domains c.args.places.now) _ c.args.k c.args.lo c.args.hi _ c.in_ok-cut_above.ensures c.least.ensures.spans (subst (λ (z : ℤ). z ≤ℤ c.args.hi) c.greatest.ensures.is high)
    (wide_before c.args.lo c.from-then-greatest-hi.result c.requires.low c.from-then-greatest-hi.ensures)

pub all_outside-requires-clause-low : goal.all_outside-requires-clause-low
all_outside-requires-clause-low g c = above_lowest c.args.lo c.least.result c.requires.low c.least.ensures.within c.if-lo-least.false

pub all_outside-requires-clause-high : goal.all_outside-requires-clause-high
all_outside-requires-clause-high g c = below_highest c.greatest.result c.args.hi c.greatest.ensures.within c.requires.high c.if-greatest-hi.false

pub all_outside-requires-clause-ordered : goal.all_outside-requires-clause-ordered
all_outside-requires-clause-ordered g c =
    let low : to_z w128 (of_z w128 c.from.result) ≡ c.args.lo = widened c.args.lo c.from.result c.requires.low c.from.ensures in
    let high : to_z w128 (of_z w128 c.from-2.result) ≡ c.args.hi = widened c.args.hi c.from-2.result c.requires.high c.from-2.ensures in
    let v = c.has_between.ensures.0 c.if-not-has_between.false in
    let first : c.args.lo ≤ℤ v.0 = subst (λ (z : ℤ). z ≤ℤ v.0) low v.2 in
    let last : v.0 ≤ℤ c.args.hi = subst (λ (z : ℤ). v.0 ≤ℤ z) high v.3 in
    let back : to_z w64 (of_z w64 c.args.lo) ≡ c.args.lo = to_z-of_z w64 c.args.lo c.ranges.lo in
    let back_high : to_z w64 (of_z w64 c.args.hi) ≡ c.args.hi = to_z-of_z w64 c.args.hi c.ranges.hi in
    subst (λ (z : ℤ). z ≤ℤ to_z w64 (of_z w64 c.args.hi)) (sym back) (subst (λ (z : ℤ). c.args.lo ≤ℤ z) (sym back_high) (trans c.args.lo v.0 c.args.hi first last))

pub returns : goal.returns
returns g c =
    let f0 : FitsSigned w64 c.args.lo = c.ranges.lo in
    let f1 : FitsSigned w64 c.args.hi = c.ranges.hi in
    let says = simp to_z-of_z at c.in_ok-kept.ensures in
    hole_taken (g.P.Places.domains c.args.places.now) _ c.args.k c.args.lo c.args.hi _ c.least.ensures.spans says c.in_ok-keep.ensures
