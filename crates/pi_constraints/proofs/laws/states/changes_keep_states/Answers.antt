use Rattle.pi_constraints.proofs.KeepsLemmas.{new-keeps, agent-keeps, empty-is-state}
use Rattle.pi_constraints.proofs.StateLawLemmas.{binding-keeps-a-state, binding-at-root-keeps-a-state, domain-keeps-a-state, constraint-keeps-a-state, ended-keeps-a-state, waiting-keeps-a-state, taken-keeps-a-state}
use Rattle.pi_constraints.proofs.laws.states.changes_keep_states.Goals as goal

pub returns-clause-empty : goal.returns-clause-empty
returns-clause-empty c = empty-is-state

pub returns-clause-new_variable : goal.returns-clause-new_variable
returns-clause-new_variable c = new-keeps

pub returns-clause-binding : goal.returns-clause-binding
returns-clause-binding c = binding-keeps-a-state

pub returns-clause-binding_at_root : goal.returns-clause-binding_at_root
returns-clause-binding_at_root c = binding-at-root-keeps-a-state

pub returns-clause-domain : goal.returns-clause-domain
returns-clause-domain c = domain-keeps-a-state

pub returns-clause-constraint : goal.returns-clause-constraint
returns-clause-constraint c = constraint-keeps-a-state

pub returns-clause-agent : goal.returns-clause-agent
returns-clause-agent c = agent-keeps

pub returns-clause-ended : goal.returns-clause-ended
returns-clause-ended c = ended-keeps-a-state

pub returns-clause-waiting : goal.returns-clause-waiting
returns-clause-waiting c = waiting-keeps-a-state

pub returns-clause-taken : goal.returns-clause-taken
returns-clause-taken c = taken-keeps-a-state
