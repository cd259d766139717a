use Rattle.std.proofs.Common.{ℕ, ◌<◌, get_or}
use Rattle.pi_constraints.specs.declared.constraint.Constraint.{Constraint}
use Rattle.pi_constraints.specs.Constraint.{IsWithinLimits}
use Rattle.pi_sat_search.proofs.limits.are_within_limits.Given as goal

abbrev pub invariant-loop-constraint : goal.invariant-loop-constraint
invariant-loop-constraint l = (k : ℕ) (other : Constraint) → k < l.constraint-index → IsWithinLimits (get_or l.constraints k other)
