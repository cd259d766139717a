use Rattle.std.proofs.Common.{◌∙◌, ◌-ℤ◌, ◌*ℤ◌, ◌≤◌, ◌^◌, ℤ, pos, neg_ℤ, sym, subst, nat_abs, FitsSigned}
use Rattle.std.specs.Int.{int_min, w128}
use Rattle.std.proofs.lemmas.Int.{to_z-of_z}
use Rattle.pi_prop_places.proofs.FitLemmas.{product_small, product_fits, product_wrapped_fits, min_small, opposite_fits, opposite_small, opposite_of, opposite_wrapped_fits}
use Rattle.pi_prop_places.proofs.terms.extremes_of.Goals as goal

pub returns-clause-least : goal.returns-clause-least
returns-clause-least c =
    let c_fits : FitsSigned w128 c.args.coefficient = c.ranges.coefficient in
    let lo_fits : FitsSigned w128 c.args.lo = c.ranges.lo in
    let hi_fits : FitsSigned w128 c.args.hi = c.ranges.hi in
    let first : FitsSigned w128 (c.args.coefficient *ℤ c.args.lo) = product_fits c.args.coefficient c.args.lo c.requires.coefficient c.requires.low in
    let last : FitsSigned w128 (c.args.coefficient *ℤ c.args.hi) = product_fits c.args.coefficient c.args.hi c.requires.coefficient c.requires.high in
    let r : FitsSigned w128 c.min.result = record { sfits = c.min.type_inv } in
    let v = simp to_z-of_z at c.min.ensures.value in
    to_z-of_z w128 c.min.result r ∙ v

pub returns-clause-opposite : goal.returns-clause-opposite
returns-clause-opposite c =
    let c_fits : FitsSigned w128 c.args.coefficient = c.ranges.coefficient in
    let lo_fits : FitsSigned w128 c.args.lo = c.ranges.lo in
    let hi_fits : FitsSigned w128 c.args.hi = c.ranges.hi in
    let first : FitsSigned w128 (c.args.coefficient *ℤ c.args.lo) = product_fits c.args.coefficient c.args.lo c.requires.coefficient c.requires.low in
    let last : FitsSigned w128 (c.args.coefficient *ℤ c.args.hi) = product_fits c.args.coefficient c.args.hi c.requires.coefficient c.requires.high in
    let minus_first : FitsSigned w128 (pos 0 -ℤ c.args.coefficient *ℤ c.args.lo) = opposite_fits c.args.coefficient c.args.lo c.requires.coefficient c.requires.low in
    let minus_last : FitsSigned w128 (pos 0 -ℤ c.args.coefficient *ℤ c.args.hi) = opposite_fits c.args.coefficient c.args.hi c.requires.coefficient c.requires.high in
    let r : FitsSigned w128 c.min-2.result = record { sfits = c.min-2.type_inv } in
    let v = simp to_z-of_z at c.min-2.ensures.value in
    to_z-of_z w128 c.min-2.result r ∙ (v ∙ (λ i. int_min (opposite_of c.args.coefficient c.args.lo i) (opposite_of c.args.coefficient c.args.hi i)))

pub returns-clause-small : goal.returns-clause-small
returns-clause-small c =
    let first : nat_abs (c.args.coefficient *ℤ c.args.lo) ≤ 2 ^ 96 = product_small c.args.coefficient c.args.lo c.requires.coefficient c.requires.low in
    let last : nat_abs (c.args.coefficient *ℤ c.args.hi) ≤ 2 ^ 96 = product_small c.args.coefficient c.args.hi c.requires.coefficient c.requires.high in
    let minus_first : nat_abs (neg_ℤ c.args.coefficient *ℤ c.args.lo) ≤ 2 ^ 96 = opposite_small c.args.coefficient c.args.lo c.requires.coefficient c.requires.low in
    let minus_last : nat_abs (neg_ℤ c.args.coefficient *ℤ c.args.hi) ≤ 2 ^ 96 = opposite_small c.args.coefficient c.args.hi c.requires.coefficient c.requires.high in (
      subst (λ (x : ℤ). nat_abs x ≤ 2 ^ 96) (sym (returns-clause-least c)) (min_small (c.args.coefficient *ℤ c.args.lo) (c.args.coefficient *ℤ c.args.hi) (2 ^ 96) first last),
      subst (λ (x : ℤ). nat_abs x ≤ 2 ^ 96) (sym (returns-clause-opposite c)) (min_small (neg_ℤ c.args.coefficient *ℤ c.args.lo) (neg_ℤ c.args.coefficient *ℤ c.args.hi) (2 ^ 96) minus_first minus_last),
    )

pub overflow_sub-first : goal.overflow_sub-first
overflow_sub-first c = opposite_wrapped_fits c.args.coefficient c.args.lo c.ranges.coefficient c.ranges.lo c.requires.coefficient c.requires.low

pub overflow_sub-last : goal.overflow_sub-last
overflow_sub-last c = opposite_wrapped_fits c.args.coefficient c.args.hi c.ranges.coefficient c.ranges.hi c.requires.coefficient c.requires.high

pub overflow_mul-first : goal.overflow_mul-first
overflow_mul-first c = product_wrapped_fits c.args.coefficient c.args.lo c.ranges.coefficient c.ranges.lo c.requires.coefficient c.requires.low

pub overflow_mul-last : goal.overflow_mul-last
overflow_mul-last c = product_wrapped_fits c.args.coefficient c.args.hi c.ranges.coefficient c.ranges.hi c.requires.coefficient c.requires.high
