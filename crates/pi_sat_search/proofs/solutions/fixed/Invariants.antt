use Rattle.std.proofs.Common.{◌≡◌, map, take}
use Rattle.pi_sat_spec.specs.Domains.{only}
use Rattle.pi_sat_search.proofs.solutions.fixed.Given as goal

abbrev pub invariant-loop-i : goal.invariant-loop-i
invariant-loop-i l = l.all.items ≡ map only (take l.i l.numbers)
