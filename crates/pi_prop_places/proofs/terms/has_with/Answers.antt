use Rattle.std.proofs.Common.{arith, ◌≡◌, ◌∙◌, neg_ℤ, FitsSigned}
use Rattle.std.specs.Int.{w128, int_div_euclid}
use Rattle.std.proofs.lemmas.Int.{ints, to_z-of_z}
use Rattle.pi_prop_spec.specs.Places.{domain_at}
use Rattle.pi_prop_places.proofs.FitLemmas.{negative_back, negative_wrapped_fits}
use Rattle.pi_prop_places.proofs.WithLemmas.{with_above, with_below}
use Rattle.pi_prop_places.proofs.terms.has_with.Goals as goal

pub returns-then-coefficient-gt0 : goal.returns-then-coefficient-gt0
returns-then-coefficient-gt0 g c =
    let first : c.div_euclid-first.result ≡ int_div_euclid (neg_ℤ c.args.above) c.args.coefficient =
    c.div_euclid-first.ensures ∙ (λ i. int_div_euclid (negative_back c.args.above (omega (arith, c.requires.above)) i) (to_z-of_z w128 c.args.coefficient c.ranges.coefficient i)) in
    let last : c.div_euclid-last.result ≡ int_div_euclid (neg_ℤ c.args.below) (neg_ℤ c.args.coefficient) =
    c.div_euclid-last.ensures ∙ (λ i. int_div_euclid (negative_back c.args.below (omega (arith, c.requires.below)) i) (negative_back c.args.coefficient (omega (arith, c.requires.small)) i)) in
    let f0 : FitsSigned w128 c.div_euclid-first.result = record { sfits = c.div_euclid-first.type_inv } in
    let f1 : FitsSigned w128 c.div_euclid-last.result = record { sfits = c.div_euclid-last.type_inv } in
    let test = c.if-coefficient-gt0.true in
    let has = simp to_z-of_z at c.has_between.ensures in
    with_above (domain_at (g.P.Places.domains c.args.places.now) c.args.k) c.args.coefficient c.args.above c.args.below c.div_euclid-first.result c.div_euclid-last.result c.has_between.result (omega (arith, ints)) first last has

pub returns-else-coefficient-gt0 : goal.returns-else-coefficient-gt0
returns-else-coefficient-gt0 g c =
    let first : c.div_euclid-first.result ≡ int_div_euclid (neg_ℤ c.args.above) c.args.coefficient =
    c.div_euclid-first.ensures ∙ (λ i. int_div_euclid (negative_back c.args.above (omega (arith, c.requires.above)) i) (to_z-of_z w128 c.args.coefficient c.ranges.coefficient i)) in
    let last : c.div_euclid-last.result ≡ int_div_euclid (neg_ℤ c.args.below) (neg_ℤ c.args.coefficient) =
    c.div_euclid-last.ensures ∙ (λ i. int_div_euclid (negative_back c.args.below (omega (arith, c.requires.below)) i) (negative_back c.args.coefficient (omega (arith, c.requires.small)) i)) in
    let f0 : FitsSigned w128 c.div_euclid-first.result = record { sfits = c.div_euclid-first.type_inv } in
    let f1 : FitsSigned w128 c.div_euclid-last.result = record { sfits = c.div_euclid-last.type_inv } in
    let test = c.if-coefficient-gt0.false in
    let has = simp to_z-of_z at c.has_between-else-coefficient-gt0.ensures in
    with_below (domain_at (g.P.Places.domains c.args.places.now) c.args.k) c.args.coefficient c.args.above c.args.below c.div_euclid-first.result c.div_euclid-last.result c.has_between-else-coefficient-gt0.result (omega (arith, ints)) c.requires.coefficient first last has

pub overflow_sub-above : goal.overflow_sub-above
overflow_sub-above g c = negative_wrapped_fits c.args.above c.requires.above

pub overflow_sub-below : goal.overflow_sub-below
overflow_sub-below g c = negative_wrapped_fits c.args.below c.requires.below

pub overflow_sub-coefficient : goal.overflow_sub-coefficient
overflow_sub-coefficient g c = negative_wrapped_fits c.args.coefficient (omega (arith, c.requires.small))
