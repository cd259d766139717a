use Rattle.std.proofs.Common.{◌≡◌}
use Rattle.pi_prop_filters.proofs.lists.finished.Given as goal

abbrev pub invariant-loop-one : goal.invariant-loop-one
invariant-loop-one l = l.domains.items ≡ l.yielded
