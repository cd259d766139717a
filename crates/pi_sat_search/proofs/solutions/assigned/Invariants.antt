use Rattle.std.proofs.Common.{◌≡◌, drop}
use Rattle.pi_sat_search.specs.Assigned.{assigned}
use Rattle.pi_sat_search.proofs.solutions.assigned.Given as goal

abbrev pub invariant-loop-i : goal.invariant-loop-i
invariant-loop-i l = assigned (drop l.i l.values) l.var ≡ assigned l.values l.var
