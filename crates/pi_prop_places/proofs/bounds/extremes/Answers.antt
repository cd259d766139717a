use Rattle.std.proofs.Common.{arith, ◌≡◌, ◌<◌, ◌≤◌, ◌*◌, ◌^◌, ◌∙◌, ◌+◌, ◌+ℤ◌, ℤ, neg_ℤ, ap, drop, length, nat_abs, to_z, of_z, subst, sym}
use Rattle.std.specs.Int.{w128}
use Rattle.pi_prop_spec.specs.Places.{domain_at}
use Rattle.pi_prop_spec.specs.Sums.{coefficient_at, least_part, least_of_all, negated}
use Rattle.pi_prop_places.proofs.ExtremeLemmas.{more_spans, added_least, added_opposite, all_least, all_opposite, small_added}
use Rattle.pi_prop_places.proofs.FitLemmas.{unwrapped, sum_back}
use Rattle.pi_prop_places.proofs.bounds.extremes.Goals as goal

pub loop-i-preserved : goal.loop-i-preserved
loop-i-preserved g c =
    let ds = g.P.Places.domains c.args.places.now in
    let ts = c.args.terms.now in
    let i = c.loop-i.i in
    let x = c.loop-i.all in
    let p = c.extremes_at-part.result in
    let inside : i < length ts = c.loop-i-test.true in
    let there : c.args.first + i < length ds = omega (arith, c.requires.count) in
    let co : to_z w128 (of_z w128 (coefficient_at ts i)) ≡ coefficient_at ts i = unwrapped (coefficient_at ts i) (omega (arith, (c.requires.coefficients i inside).1)) in
    let least : p.least ≡ least_part (coefficient_at ts i) (domain_at ds (c.args.first + i)) = c.extremes_at-part.ensures.least ∙ ap (λ (z : ℤ). least_part z (domain_at ds (c.args.first + i))) co in
    let opposite : p.opposite ≡ least_part (neg_ℤ (coefficient_at ts i)) (domain_at ds (c.args.first + i)) = c.extremes_at-part.ensures.opposite ∙ ap (λ (z : ℤ). least_part (neg_ℤ z) (domain_at ds (c.args.first + i))) co in
    let small = c.loop-i.invariant.small in
    let part = c.extremes_at-part.ensures.small in
    let few : length ts ≤ 2 ^ 20 = c.requires.few in
    let sum : to_z w128 (of_z w128 (to_z w128 (of_z w128 x.least) +ℤ to_z w128 (of_z w128 p.least))) ≡ x.least +ℤ p.least = sum_back x.least p.least (omega (arith, small.0)) part.0 in
    let minus : to_z w128 (of_z w128 (to_z w128 (of_z w128 x.opposite) +ℤ to_z w128 (of_z w128 p.opposite))) ≡ x.opposite +ℤ p.opposite = sum_back x.opposite p.opposite (omega (arith, small.1)) part.1 in
    let both = small_added i x.least x.opposite p.least p.opposite small part in
    record {
      least = ap (λ (z : ℤ). z +ℤ least_of_all (drop (i + 1) ts) (drop (c.args.first + (i + 1)) ds)) sum ∙ added_least ts ds c.args.first i x.least p.least (least_of_all ts (drop c.args.first ds)) inside there least c.loop-i.invariant.least;
      opposite = ap (λ (z : ℤ). z +ℤ least_of_all (negated (drop (i + 1) ts)) (drop (c.args.first + (i + 1)) ds)) minus
          ∙ added_opposite ts ds c.args.first i x.opposite p.opposite (least_of_all (negated ts) (drop c.args.first ds)) inside there opposite c.loop-i.invariant.opposite;
      small = (subst (λ (z : ℤ). nat_abs z ≤ (i + 1) * 2 ^ 96) (sym sum) both.0, subst (λ (z : ℤ). nat_abs z ≤ (i + 1) * 2 ^ 96) (sym minus) both.1);
      spans = more_spans ds c.args.first i c.extremes_at-part.ensures.spans c.loop-i.invariant.spans;
    }

pub returns-clause-least : goal.returns-clause-least
returns-clause-least g c = all_least c.args.terms.now _ c.loop-i.i c.loop-i.all.least _ c.loop-i-test.false c.loop-i.invariant.least

pub returns-clause-opposite : goal.returns-clause-opposite
returns-clause-opposite g c = all_opposite c.args.terms.now _ c.loop-i.i c.loop-i.all.opposite _ c.loop-i-test.false c.loop-i.invariant.opposite

pub returns-clause-spans : goal.returns-clause-spans
returns-clause-spans g c = λ k l. c.loop-i.invariant.spans k (omega (arith, c.loop-i-test.false))
