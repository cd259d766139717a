use Rattle.std.proofs.Common.{arith, ◌∙◌, ◌≤◌, ◌^◌, ℕ, ℤ, IsTrue, nat_abs, subst, sym, refl, length-drop, to_z, of_z}
use Rattle.std.specs.Int.{w128}
use Rattle.std.proofs.lemmas.Bool.{false≢true}
use Rattle.std.proofs.lemmas.Int.{to_z-of_z}
use Rattle.pi_constraints.specs.Domain.{has_value}
use Rattle.pi_prop_spec.specs.Places.{domain_at}
use Rattle.pi_prop_spec.specs.Reified.{LeavesValues, of_terms}
use Rattle.pi_prop_spec.specs.Sums.{coefficient_at, EqualKeeps}
use Rattle.pi_prop_places.proofs.SideLemmas.{coefficients_of}
use Rattle.pi_prop_filters.proofs.BitLemmas.{back}
use Rattle.pi_prop_filters.proofs.LeaveLemmas.{equal_turn, one_more}
use Rattle.pi_prop_filters.proofs.leaves.leaves_equal.Goals as goal

pub extremes-all-requires-clause-coefficients : goal.extremes-all-requires-clause-coefficients
extremes-all-requires-clause-coefficients g c = coefficients_of 0 c.args.terms.now c.requires.limits.2

pub has_equal-requires-clause-coefficient : goal.has_equal-requires-clause-coefficient
has_equal-requires-clause-coefficient g c =
    let co = coefficients_of 0 c.args.terms.now c.requires.limits.2 c.loop-i.i c.loop-i-test.true in
    λ e. co.0 (sym (back (coefficient_at c.args.terms.now c.loop-i.i) (omega (arith, co.1))) ∙ e)

pub has_equal-requires-clause-narrow : goal.has_equal-requires-clause-narrow
has_equal-requires-clause-narrow g c =
    let co = coefficients_of 0 c.args.terms.now c.requires.limits.2 c.loop-i.i c.loop-i-test.true in
    subst (λ (z : ℤ). nat_abs z ≤ 2 ^ 40) (sym (back (coefficient_at c.args.terms.now c.loop-i.i) (omega (arith, co.1)))) co.1

pub returns-then-not-has_equal : goal.returns-then-not-has_equal
returns-then-not-has_equal g c =
    let ts = c.args.terms.now in
    let ds = g.P.Places.domains c.args.places.now in
    let i = c.loop-i.i in
    let w = to_z w128 (of_z w128 c.args.constant) in
    let co = coefficients_of 0 ts c.requires.limits.2 i c.loop-i-test.true in
    let turn = equal_turn c.has_equal.result ts w ds i _ w c.extremes-all.result.least c.extremes-all.result.opposite c.requires.count c.loop-i-test.true (back (coefficient_at ts i) (omega (arith, co.1))) refl
    c.extremes-all.ensures.least c.extremes-all.ensures.opposite c.has_equal.ensures in (
      λ t. absurd (false≢true t),
      λ f.
          let given : LeavesValues (EqualKeeps ts w (of_terms ds)) (of_terms ds) = subst (λ (z : ℤ). LeavesValues (EqualKeeps ts z (of_terms ds)) (of_terms ds)) (sym (to_z-of_z w128 c.args.constant c.ranges.constant)) f in
          sym c.if-not-has_equal.true ∙ turn.1 (given i (omega (arith, length-drop 1 ds, c.requires.count, c.loop-i-test.true))),
    )

pub loop-i-preserved : goal.loop-i-preserved
loop-i-preserved g c =
    let ts = c.args.terms.now in
    let ds = g.P.Places.domains c.args.places.now in
    let i = c.loop-i.i in
    let w = to_z w128 (of_z w128 c.args.constant) in
    let co = coefficients_of 0 ts c.requires.limits.2 i c.loop-i-test.true in
    let turn = equal_turn c.has_equal.result ts w ds i _ w c.extremes-all.result.least c.extremes-all.result.opposite c.requires.count c.loop-i-test.true (back (coefficient_at ts i) (omega (arith, co.1))) refl
    c.extremes-all.ensures.least c.extremes-all.ensures.opposite c.has_equal.ensures in
    one_more (λ (k : ℕ). (v : ℤ) × IsTrue (has_value (domain_at (of_terms ds) k) v) × EqualKeeps ts w (of_terms ds) k v) i (turn.0 c.if-not-has_equal.false) c.loop-i.invariant

pub returns : goal.returns
returns g c =
    let ts = c.args.terms.now in
    let ds = g.P.Places.domains c.args.places.now in
    let w = to_z w128 (of_z w128 c.args.constant) in
    let all : LeavesValues (EqualKeeps ts w (of_terms ds)) (of_terms ds) = λ k l. c.loop-i.invariant k (omega (arith, length-drop 1 ds, c.requires.count, c.loop-i-test.false)) in
    (λ t. subst (λ (z : ℤ). LeavesValues (EqualKeeps ts z (of_terms ds)) (of_terms ds)) (to_z-of_z w128 c.args.constant c.ranges.constant) all, λ f. refl)
