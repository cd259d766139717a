use Rattle.std.proofs.Common.{arith, ℤ, ◌≢◌, ◌≤◌, ◌^◌, pos, nat_abs, length, drop, subst, sym, FitsSigned}
use Rattle.std.specs.Int.{w128}
use Rattle.std.proofs.lemmas.Int.{to_z-of_z, fits_signed_from_abs}
use Rattle.pi_prop_spec.specs.Sums.{coefficient_at}
use Rattle.pi_prop_places.specs.Terms.{sides_keep}
use Rattle.pi_prop_places.proofs.CutLemmas.{cut_whole}
use Rattle.pi_prop_places.proofs.FitLemmas.{unwrapped}
use Rattle.pi_prop_places.proofs.SideLemmas.{next_cut}
use Rattle.pi_prop_places.proofs.bounds.cut_terms.Goals as goal

pub loop-i-preserved : goal.loop-i-preserved
loop-i-preserved g c =
    let ts = c.args.terms.now in
    let i = c.loop-i.i in
    let co : FitsSigned w128 (coefficient_at ts i) = fits_signed_from_abs w128 (coefficient_at ts i) (omega (arith, (c.requires.coefficients i c.loop-i-test.true).1)) in
    let cut = simp to_z-of_z at c.in_ok-cut_one.ensures in
    next_cut c.args.first i ts c.args.sides.above c.args.sides.below (g.P.Places.domains c.args.places.now) (g.P.Places.domains c.loop-i.places) _ c.extremes-all.result.least c.extremes-all.result.opposite c.requires.count c.loop-i-test.true c.extremes-all.ensures.least c.extremes-all.ensures.opposite c.loop-i.invariant cut

pub cut_one-requires-clause-coefficient : goal.cut_one-requires-clause-coefficient
cut_one-requires-clause-coefficient g c =
    let co = c.requires.coefficients c.loop-i.i c.loop-i-test.true in
    subst (λ (z : ℤ). z ≢ pos 0) (sym (unwrapped (coefficient_at c.args.terms.now c.loop-i.i) (omega (arith, co.1)))) co.0

pub cut_one-requires-clause-narrow : goal.cut_one-requires-clause-narrow
cut_one-requires-clause-narrow g c =
    let co = c.requires.coefficients c.loop-i.i c.loop-i-test.true in
    subst (λ (z : ℤ). nat_abs z ≤ 2 ^ 40) (sym (unwrapped (coefficient_at c.args.terms.now c.loop-i.i) (omega (arith, co.1)))) co.1

pub returns : goal.returns
returns g c =
    let ds = g.P.Places.domains c.args.places.now in
    cut_whole c.args.first c.loop-i.i (length c.args.terms.now) (sides_keep c.args.sides.above c.args.sides.below c.args.terms.now (drop c.args.first ds)) ds (g.P.Places.domains c.loop-i.places) (omega arith) c.loop-i-test.false c.loop-i.invariant
