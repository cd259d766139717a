use Rattle.pi_label_laws.proofs.NewGoals.{new_variables_are_made, new_variables_of_operands_are_made}
use Rattle.pi_label_laws.proofs.laws.labelling.new_variables_are_made.Goals as goal

pub returns-clause-goals : goal.returns-clause-goals
returns-clause-goals c = new_variables_are_made

pub returns-clause-operands : goal.returns-clause-operands
returns-clause-operands c = new_variables_of_operands_are_made
