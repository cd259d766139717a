use Rattle.std.proofs.Common.{ℤ, ◌-ℤ◌, subst, FitsSigned, arith}
use Rattle.std.specs.Int.{w128}
use Rattle.std.proofs.lemmas.Int.{to_z-of_z, fits_signed_from_abs}
use Rattle.pi_prop_places.specs.Changes.{IsCutAt}
use Rattle.pi_prop_places.specs.Roots.{is_no_root}
use Rattle.pi_prop_places.proofs.FitLemmas.{minus_fits}
use Rattle.pi_prop_places.proofs.roots.remove_at.Goals as goal

pub returns : goal.returns
returns g c =
    let p = c.extremes_at-part.result in
    let co : FitsSigned w128 c.args.coefficient = c.ranges.coefficient in
    let sum : FitsSigned w128 c.args.sum = c.ranges.sum in
    let part : FitsSigned w128 p.least = fits_signed_from_abs w128 p.least (omega (arith, c.extremes_at-part.ensures.small.0)) in
    let rest : FitsSigned w128 (c.args.sum -ℤ p.least) = minus_fits c.args.sum p.least c.requires.sum c.extremes_at-part.ensures.small.0 in
    let least = simp to_z-of_z at c.extremes_at-part.ensures.least in
    let cut = simp to_z-of_z at c.in_ok-remove_root.ensures in
    subst (λ (z : ℤ). IsCutAt c.args.k (is_no_root c.args.coefficient (c.args.sum -ℤ z)) (g.P.Places.domains c.args.places.now) (g.P.Places.domains c.remove_root.new.places)) least cut
