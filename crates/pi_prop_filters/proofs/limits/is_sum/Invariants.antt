use Rattle.std.proofs.Common.{◌↔◌, drop}
use Rattle.pi_constraints.specs.Constraint.{IsSum}
use Rattle.pi_prop_filters.proofs.limits.is_sum.Given as goal

-- all are terms of a sum just where those that are left are, from the next variable on
abbrev pub invariant-loop-i : goal.invariant-loop-i
invariant-loop-i l = IsSum l.least (drop l.i l.terms) ↔ IsSum 0 l.terms
