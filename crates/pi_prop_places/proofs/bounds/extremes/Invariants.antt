use Rattle.std.proofs.Common.{◌≡◌, ◌+◌, ◌*◌, ◌^◌, drop, ◌+ℤ◌}
use Rattle.pi_prop_spec.specs.Sums.{least_of_all, negated}
use Rattle.pi_prop_places.specs.Reads.{AreSpansFrom}
use Rattle.pi_prop_places.specs.Terms.{BothAreSmall}
use Rattle.pi_prop_places.proofs.bounds.extremes.Given as goal

-- what was added, and what the terms that are left add, is what all add
abbrev pub invariant-loop-i : goal.invariant-loop-i
invariant-loop-i g l =
    let ds = g.P.Places.domains l.places in
    record {
      least : (l.all.least +ℤ least_of_all (drop l.i l.terms) (drop (l.first + l.i) ds)) ≡ least_of_all l.terms (drop l.first ds);
      opposite : (l.all.opposite +ℤ least_of_all (negated (drop l.i l.terms)) (drop (l.first + l.i) ds)) ≡ least_of_all (negated l.terms) (drop l.first ds);
      small : BothAreSmall (l.i * 2 ^ 96) l.all.least l.all.opposite;
      spans : AreSpansFrom l.first l.i ds;
    }
