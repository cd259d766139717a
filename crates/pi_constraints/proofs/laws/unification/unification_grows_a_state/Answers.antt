use Rattle.pi_constraints.proofs.UnifyLemmas.{unified_is_a_state, unified_grows, higher_is_bound_to_lower}
use Rattle.pi_constraints.proofs.laws.unification.unification_grows_a_state.Goals as goal

pub returns-clause-state : goal.returns-clause-state
returns-clause-state c = unified_is_a_state

pub returns-clause-grows : goal.returns-clause-grows
returns-clause-grows c = unified_grows

pub returns-clause-lower : goal.returns-clause-lower
returns-clause-lower c = higher_is_bound_to_lower
