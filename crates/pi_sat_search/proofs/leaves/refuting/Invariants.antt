use Rattle.std.proofs.Common.{ℕ, ◌<◌, get_or}
use Rattle.pi_constraints.specs.declared.constraint.Constraint.{Constraint}
use Rattle.pi_sat_spec.specs.Logs.{Refutes}
use Rattle.pi_sat_search.proofs.leaves.refuting.Given as goal

abbrev pub invariant-loop-i : goal.invariant-loop-i
invariant-loop-i l = (k : ℕ) (other : Constraint) → k < l.i → Refutes (get_or l.constraints k other) l.present → ⊥
