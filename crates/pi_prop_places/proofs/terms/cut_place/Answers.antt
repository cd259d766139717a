use Rattle.std.proofs.Common.{arith, ◌≡◌, ◌∙◌, neg_ℤ, to_z, of_z}
use Rattle.std.specs.Int.{w128, int_div_euclid}
use Rattle.std.proofs.lemmas.Int.{ints, to_z-of_z}
use Rattle.pi_prop_places.proofs.FitLemmas.{negative_back}
use Rattle.pi_prop_places.proofs.RoundLemmas.{cut_above_place, cut_below_place}
use Rattle.pi_prop_places.proofs.terms.cut_place.Goals as goal

pub returns-in_ok-cut_above : goal.returns-in_ok-cut_above
returns-in_ok-cut_above g c =
    let q : c.div_euclid-bound.result ≡ int_div_euclid (neg_ℤ c.args.rest) c.args.coefficient =
    c.div_euclid-bound.ensures ∙ (λ i. int_div_euclid (negative_back c.args.rest (omega (arith, c.requires.rest)) i) (to_z-of_z w128 c.args.coefficient c.ranges.coefficient i)) in
    let b : to_z w128 (of_z w128 c.div_euclid-bound.result) ≡ c.div_euclid-bound.result = to_z-of_z w128 c.div_euclid-bound.result (record { sfits = c.div_euclid-bound.type_inv }) in
    cut_above_place _ _ c.args.k c.args.coefficient c.args.rest (to_z w128 (of_z w128 c.div_euclid-bound.result)) (omega (arith, ints)) (b ∙ q) c.in_ok-cut_above.ensures

pub returns-in_ok-cut_below : goal.returns-in_ok-cut_below
returns-in_ok-cut_below g c =
    let q : c.div_euclid-bound.result ≡ int_div_euclid (neg_ℤ c.args.rest) c.args.coefficient =
    c.div_euclid-bound.ensures ∙ (λ i. int_div_euclid (negative_back c.args.rest (omega (arith, c.requires.rest)) i) (to_z-of_z w128 c.args.coefficient c.ranges.coefficient i)) in
    let b : to_z w128 (of_z w128 c.div_euclid-bound.result) ≡ c.div_euclid-bound.result = to_z-of_z w128 c.div_euclid-bound.result (record { sfits = c.div_euclid-bound.type_inv }) in
    cut_below_place _ _ c.args.k c.args.coefficient c.args.rest (to_z w128 (of_z w128 c.div_euclid-bound.result)) (omega (arith, ints)) c.requires.coefficient (b ∙ q) c.in_ok-cut_below.ensures
