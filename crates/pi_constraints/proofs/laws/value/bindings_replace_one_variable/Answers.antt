use Rattle.pi_constraints.proofs.BindingLemmas.{binding_stays_acyclic, binding_replaces, new_variable_changes_no_value, new_variable_stays_acyclic}
use Rattle.pi_constraints.proofs.laws.value.bindings_replace_one_variable.Goals as goal

pub returns-clause-acyclic : goal.returns-clause-acyclic
returns-clause-acyclic c = binding_stays_acyclic

pub returns-clause-replaces : goal.returns-clause-replaces
returns-clause-replaces c = binding_replaces

pub returns-clause-new_variable : goal.returns-clause-new_variable
returns-clause-new_variable c = new_variable_changes_no_value

pub returns-clause-new_acyclic : goal.returns-clause-new_acyclic
returns-clause-new_acyclic c = new_variable_stays_acyclic
