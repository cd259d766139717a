use Rattle.std.proofs.Common.{arith, ℤ, ◌≢◌, ◌≤◌, ◌^◌, pos, length, nat_abs, subst, sym, FitsSigned, to_z, of_z}
use Rattle.std.specs.Int.{w128}
use Rattle.std.proofs.lemmas.Int.{to_z-of_z, fits_signed_from_abs}
use Rattle.pi_prop_spec.specs.Sums.{coefficient_at}
use Rattle.pi_prop_places.specs.Changes.{AreCutFrom}
use Rattle.pi_prop_places.proofs.CutLemmas.{cut_whole}
use Rattle.pi_prop_places.proofs.FitLemmas.{unwrapped}
use Rattle.pi_prop_places.proofs.RootLemmas.{all_roots, next_root}
use Rattle.pi_prop_places.proofs.roots.remove_each.Goals as goal

pub loop-i-preserved : goal.loop-i-preserved
loop-i-preserved g c =
    let ts = c.args.terms.now in
    let i = c.loop-i.i in
    let co : FitsSigned w128 (coefficient_at ts i) = fits_signed_from_abs w128 (coefficient_at ts i) (omega (arith, (c.requires.coefficients i c.loop-i-test.true).1)) in
    let cut = simp to_z-of_z at c.in_ok-remove_at.ensures in
    next_root c.args.first i ts (to_z w128 (of_z w128 c.args.sum)) (g.P.Places.domains c.args.places.now) (g.P.Places.domains c.loop-i.places) _ c.loop-i.invariant cut

pub remove_at-requires-clause-coefficient : goal.remove_at-requires-clause-coefficient
remove_at-requires-clause-coefficient g c =
    let co = c.requires.coefficients c.loop-i.i c.loop-i-test.true in
    subst (λ (z : ℤ). z ≢ pos 0) (sym (unwrapped (coefficient_at c.args.terms.now c.loop-i.i) (omega (arith, co.1)))) co.0

pub remove_at-requires-clause-narrow : goal.remove_at-requires-clause-narrow
remove_at-requires-clause-narrow g c =
    let co = c.requires.coefficients c.loop-i.i c.loop-i-test.true in
    subst (λ (z : ℤ). nat_abs z ≤ 2 ^ 40) (sym (unwrapped (coefficient_at c.args.terms.now c.loop-i.i) (omega (arith, co.1)))) co.1

pub remove_at-requires-clause-sum : goal.remove_at-requires-clause-sum
remove_at-requires-clause-sum g c = subst (λ (z : ℤ). nat_abs z ≤ 2 ^ 117) (sym (to_z-of_z w128 c.args.sum c.ranges.sum)) c.requires.sum

pub returns : goal.returns
returns g c =
    let ds = g.P.Places.domains c.args.places.now in
    let es = g.P.Places.domains c.loop-i.places in
    let ts = c.args.terms.now in
    subst (λ (sum : ℤ). AreCutFrom c.args.first (length ts) (all_roots ts sum c.args.first ds) ds es) (to_z-of_z w128 c.args.sum c.ranges.sum)
    (cut_whole c.args.first c.loop-i.i (length ts) (all_roots ts _ c.args.first ds) ds es (omega arith) c.loop-i-test.false c.loop-i.invariant)
