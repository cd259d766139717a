use Rattle.std.proofs.Common.{◌≡◌, take}
use Rattle.pi_sat_search.proofs.given.copied_constraints.Given as goal

abbrev pub invariant-loop-given : goal.invariant-loop-given
invariant-loop-given l = l.all.items ≡ take l.given-index l.constraints
