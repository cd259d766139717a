use Rattle.std.proofs.Common.{◌≡◌, All, take}
use Rattle.pi_prop_filters.specs.Intervals.{ends_of, IsEnds}
use Rattle.pi_prop_filters.proofs.ends.all_ends.Given as goal

abbrev pub invariant-loop-k : goal.invariant-loop-k
invariant-loop-k g l = record {
  all : l.ends.items ≡ ends_of (take l.k (g.P.Places.domains l.places));
  ends : All IsEnds l.ends.items;
}
