use Rattle.std.proofs.Common.{arith, ◌≡◌, ◌≢◌, ◌≤◌, ◌^◌, pos, nat_abs, ◌+ℤ◌, ◌-ℤ◌, ◌∙◌, ℤ, neg_ℤ, ap, sym, subst, refl, to_z, of_z}
use Rattle.std.specs.Int.{w128}
use Rattle.pi_prop_spec.specs.Places.{domain_at}
use Rattle.pi_prop_spec.specs.Sums.{least_part}
use Rattle.pi_prop_places.proofs.FitLemmas.{negative_back}
use Rattle.pi_prop_filters.proofs.BitLemmas.{back, sum_is, minus_is, small_minus, small_negative, bits_minus_fit, bits_negative_fit, rest_fits, rest_small}
use Rattle.pi_prop_filters.proofs.LeaveLemmas.{with_same}
use Rattle.pi_prop_filters.proofs.leaves.has_equal.Goals as goal

pub returns : goal.returns
returns g c =
    let d = domain_at (g.P.Places.domains c.args.places.now) c.args.k in
    let m = c.args.constant in
    let all = c.args.all in
    let part = c.extremes_at-part in
    let narrow = c.requires.constant in
    let small = c.requires.small in
    let here = part.ensures.small in
    let co : to_z w128 (of_z w128 c.args.coefficient) ≡ c.args.coefficient = back c.args.coefficient (omega (arith, c.requires.narrow)) in
    let least : part.result.least ≡ least_part c.args.coefficient d = part.ensures.least ∙ ap (λ (z : ℤ). least_part z d) co in
    let opposite : part.result.opposite ≡ least_part (neg_ℤ c.args.coefficient) d = part.ensures.opposite ∙ ap (λ (z : ℤ). least_part (neg_ℤ z) d) co in
    let above = minus_is _ _ all.least part.result.least (back all.least (omega (arith, small.0))) (back part.result.least (omega (arith, here.0))) (omega (arith, small.0)) (omega (arith, here.0)) in
    let below = minus_is _ _ all.opposite part.result.opposite (back all.opposite (omega (arith, small.1))) (back part.result.opposite (omega (arith, here.1))) (omega (arith, small.1)) (omega (arith, here.1)) in
    with_same c.has_with.result d d _ _ _ _ _ _ refl co
    (sum_is _ _ m (all.least -ℤ part.result.least) (back m (omega (arith, narrow))) above (omega (arith, narrow)) (small_minus all.least part.result.least (omega (arith, small.0)) (omega (arith, here.0))) ∙ ap (λ (z : ℤ). m +ℤ (all.least -ℤ z)) least)
    (sum_is _ _ (neg_ℤ m) (all.opposite -ℤ part.result.opposite) (negative_back m (omega (arith, narrow))) below (small_negative m (omega (arith, narrow))) (small_minus all.opposite part.result.opposite (omega (arith, small.1)) (omega (arith, here.1))) ∙ ap (λ (z : ℤ). neg_ℤ m +ℤ (all.opposite -ℤ z)) opposite)
    c.has_with.ensures

pub overflow_sub-above : goal.overflow_sub-above
overflow_sub-above g c =
    let small = c.requires.small.0 in
    let here = c.extremes_at-part.ensures.small.0 in
    bits_minus_fit c.args.all.least c.extremes_at-part.result.least (omega (arith, small)) (omega (arith, here))

pub overflow_add-above : goal.overflow_add-above
overflow_add-above g c =
    let narrow = c.requires.constant in
    let small = c.requires.small.0 in
    let here = c.extremes_at-part.ensures.small.0 in
    rest_fits _ c.args.constant c.args.all.least c.extremes_at-part.result.least (back c.args.constant (omega (arith, narrow))) (omega (arith, narrow)) (omega (arith, small)) (omega (arith, here))

pub overflow_sub-below : goal.overflow_sub-below
overflow_sub-below g c = let narrow = c.requires.constant in bits_negative_fit c.args.constant (omega (arith, narrow))

pub overflow_sub-below-2 : goal.overflow_sub-below-2
overflow_sub-below-2 g c =
    let small = c.requires.small.1 in
    let here = c.extremes_at-part.ensures.small.1 in
    bits_minus_fit c.args.all.opposite c.extremes_at-part.result.opposite (omega (arith, small)) (omega (arith, here))

pub overflow_add-below : goal.overflow_add-below
overflow_add-below g c =
    let narrow = c.requires.constant in
    let small = c.requires.small.1 in
    let here = c.extremes_at-part.ensures.small.1 in
    rest_fits _ (neg_ℤ c.args.constant) c.args.all.opposite c.extremes_at-part.result.opposite (negative_back c.args.constant (omega (arith, narrow))) (small_negative c.args.constant (omega (arith, narrow))) (omega (arith, small)) (omega (arith, here))

pub has_with-requires-clause-coefficient : goal.has_with-requires-clause-coefficient
has_with-requires-clause-coefficient g c =
    let narrow = c.requires.narrow in
    subst (λ (z : ℤ). z ≢ pos 0) (sym (back c.args.coefficient (omega (arith, narrow)))) c.requires.coefficient

pub has_with-requires-clause-small : goal.has_with-requires-clause-small
has_with-requires-clause-small g c =
    let narrow = c.requires.narrow in
    subst (λ (z : ℤ). nat_abs z ≤ 2 ^ 40) (sym (back c.args.coefficient (omega (arith, narrow)))) narrow

pub has_with-requires-clause-above : goal.has_with-requires-clause-above
has_with-requires-clause-above g c =
    let narrow = c.requires.constant in
    let small = c.requires.small.0 in
    let here = c.extremes_at-part.ensures.small.0 in
    rest_small _ c.args.constant c.args.all.least c.extremes_at-part.result.least (back c.args.constant (omega (arith, narrow))) (omega (arith, narrow)) (omega (arith, small)) (omega (arith, here))

pub has_with-requires-clause-below : goal.has_with-requires-clause-below
has_with-requires-clause-below g c =
    let narrow = c.requires.constant in
    let small = c.requires.small.1 in
    let here = c.extremes_at-part.ensures.small.1 in
    rest_small _ (neg_ℤ c.args.constant) c.args.all.opposite c.extremes_at-part.result.opposite (negative_back c.args.constant (omega (arith, narrow))) (small_negative c.args.constant (omega (arith, narrow))) (omega (arith, small)) (omega (arith, here))
