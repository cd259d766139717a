use Rattle.std.proofs.Common.{ℤ, subst}
use Rattle.std.specs.Int.{w128}
use Rattle.std.proofs.lemmas.Int.{to_z-of_z}
use Rattle.pi_prop_spec.specs.Sums.{SumKeeps}
use Rattle.pi_prop_places.specs.Changes.{AreFiltered}
use Rattle.pi_prop_filters.proofs.LeftLemmas.{sum_filtered}
use Rattle.pi_prop_filters.proofs.kinds.filter_linear.Goals as goal

pub returns : goal.returns
returns g c =
    let ds = g.P.Places.domains c.args.places.now in
    let es = g.P.Places.domains c.filter_sum.new.places in
    subst (λ (z : ℤ). AreFiltered (SumKeeps c.args.rel c.args.terms.now z ds) ds es) (to_z-of_z w128 c.args.constant c.ranges.constant)
    (sum_filtered (SumKeeps c.args.rel c.args.terms.now _ ds) ds es c.in_ok-filter_sum.ensures)
