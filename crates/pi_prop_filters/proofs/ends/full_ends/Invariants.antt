use Rattle.std.proofs.Common.{◌≡◌, ◌≤◌, take}
use Rattle.pi_prop_filters.proofs.CountLemmas.{count_from}
use Rattle.pi_prop_filters.proofs.FullLemmas.{FullBefore}
use Rattle.pi_prop_filters.proofs.ends.full_ends.Given as goal

abbrev pub invariant-loop-i : goal.invariant-loop-i
invariant-loop-i l = record {
  full : FullBefore l.a l.sorted l.i l.full.items;
  count : l.count ≡ count_from l.a (take l.i l.sorted);
  few : l.count ≤ l.i;
}
