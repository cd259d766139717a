use Rattle.std.proofs.Common.{ℤ, subst, length, drop}
use Rattle.std.specs.Int.{w128}
use Rattle.std.proofs.lemmas.Int.{to_z-of_z}
use Rattle.pi_prop_places.specs.Changes.{AreCutFrom}
use Rattle.pi_prop_places.specs.Roots.{roots_keep}
use Rattle.pi_prop_places.proofs.SumFilterLemmas.{roots_filtered}
use Rattle.pi_prop_places.proofs.SideLemmas.{coefficients_of}
use Rattle.pi_prop_places.proofs.sums.cut_unequal.Goals as goal

pub remove_roots-requires-clause-coefficients : goal.remove_roots-requires-clause-coefficients
remove_roots-requires-clause-coefficients g c = coefficients_of 0 c.args.terms.now c.requires.limits.2

pub returns : goal.returns
returns g c =
    let e = c.in_ok-remove_roots.ensures in
    let ds = g.P.Places.domains c.args.places.now in
    let es = g.P.Places.domains c.remove_roots.new.places in
    let ts = c.args.terms.now in
    roots_filtered c.args.first ts c.args.constant e.0 ds es c.requires.count e.1
    (subst (λ (m : ℤ). AreCutFrom c.args.first (length ts) (roots_keep e.0 ts m (drop c.args.first ds)) ds es) (to_z-of_z w128 c.args.constant c.ranges.constant) e.2)
