use Rattle.std.proofs.Common.{ℕ, ◌<◌, get_or}
use Rattle.pi_constraints.specs.declared.constraint.Constraint.{Constraint}
use Rattle.pi_prop_spec.specs.Solutions.{Holds}
use Rattle.pi_sat_search.specs.Assigned.{assigned}
use Rattle.pi_sat_search.proofs.solutions.all_hold.Given as goal

abbrev pub invariant-loop-constraint : goal.invariant-loop-constraint
invariant-loop-constraint l = (k : ℕ) (other : Constraint) → k < l.constraint-index → Holds (get_or l.constraints k other) (assigned l.values)
