use Rattle.std.proofs.Common.{ℕ, ◌<◌, get_or}
use Rattle.pi_constraints.specs.declared.constraint.Constraint.{Constraint}
use Rattle.pi_sat_check.specs.May.{MayHave}
use Rattle.pi_sat_check.proofs.may.may_search.Given as goal

abbrev pub invariant-loop-i : goal.invariant-loop-i
invariant-loop-i l = (k : ℕ) (other : Constraint) → k < l.i → MayHave l.domains (get_or l.all k other)
