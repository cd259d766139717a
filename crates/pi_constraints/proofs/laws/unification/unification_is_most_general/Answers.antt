use Rattle.pi_constraints.proofs.UnifyLemmas.{unified_has_the_assignments, not_unified_has_none, unified_are_one}
use Rattle.pi_constraints.proofs.laws.unification.unification_is_most_general.Goals as goal

pub returns-clause-assignments : goal.returns-clause-assignments
returns-clause-assignments c = unified_has_the_assignments

pub returns-clause-none : goal.returns-clause-none
returns-clause-none c = not_unified_has_none

pub returns-clause-one : goal.returns-clause-one
returns-clause-one c = unified_are_one
