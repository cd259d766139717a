use Rattle.std.proofs.Common.{◌≡◌, ◌∙◌, ◌*ℤ◌, sym, subst, FitsSigned}
use Rattle.std.specs.Int.{int_min, int_max, w128}
use Rattle.std.proofs.lemmas.Int.{to_z-of_z}
use Rattle.pi_prop_filters.proofs.CornerLemmas.{value_fits, least_fits, greatest_fits}
use Rattle.pi_prop_filters.proofs.corners.Ends.corners.Goals as goal

pub returns-clause-lo : goal.returns-clause-lo
returns-clause-lo c =
    let x = c.args.self in
    let y = c.args.other in
    let f0 : FitsSigned w128 x.lo = value_fits x.lo c.requires.low in
    let f1 : FitsSigned w128 x.hi = value_fits x.hi c.requires.high in
    let first : c.times-first.result.lo ≡ int_min (x.lo *ℤ y.lo) (x.lo *ℤ y.hi) = simp to_z-of_z at c.times-first.ensures.lo in
    let last : c.times-last.result.lo ≡ int_min (x.hi *ℤ y.lo) (x.hi *ℤ y.hi) = simp to_z-of_z at c.times-last.ensures.lo in
    let f2 : FitsSigned w128 c.times-first.result.lo = subst (FitsSigned w128) (sym first) (least_fits x.lo y.lo y.hi c.requires.low c.requires.other_low c.requires.other_high) in
    let f3 : FitsSigned w128 c.times-last.result.lo = subst (FitsSigned w128) (sym last) (least_fits x.hi y.lo y.hi c.requires.high c.requires.other_low c.requires.other_high) in
    let v = simp to_z-of_z at c.min.ensures.value in
    to_z-of_z w128 c.min.result (record { sfits = c.min.type_inv }) ∙ (v ∙ (λ i. int_min (first i) (last i)))

pub returns-clause-hi : goal.returns-clause-hi
returns-clause-hi c =
    let x = c.args.self in
    let y = c.args.other in
    let f0 : FitsSigned w128 x.lo = value_fits x.lo c.requires.low in
    let f1 : FitsSigned w128 x.hi = value_fits x.hi c.requires.high in
    let first : c.times-first.result.hi ≡ int_max (x.lo *ℤ y.lo) (x.lo *ℤ y.hi) = simp to_z-of_z at c.times-first.ensures.hi in
    let last : c.times-last.result.hi ≡ int_max (x.hi *ℤ y.lo) (x.hi *ℤ y.hi) = simp to_z-of_z at c.times-last.ensures.hi in
    let f2 : FitsSigned w128 c.times-first.result.hi = subst (FitsSigned w128) (sym first) (greatest_fits x.lo y.lo y.hi c.requires.low c.requires.other_low c.requires.other_high) in
    let f3 : FitsSigned w128 c.times-last.result.hi = subst (FitsSigned w128) (sym last) (greatest_fits x.hi y.lo y.hi c.requires.high c.requires.other_low c.requires.other_high) in
    let v = simp to_z-of_z at c.max.ensures.value in
    to_z-of_z w128 c.max.result (record { sfits = c.max.type_inv }) ∙ (v ∙ (λ i. int_max (first i) (last i)))
