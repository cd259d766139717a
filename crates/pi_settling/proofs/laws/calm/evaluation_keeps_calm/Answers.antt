use Rattle.pi_settling.proofs.CalmLemmas.{new_variables_add_up, new_variables_keep_calm, slot_makes_variables, evaluation_makes_variables, evaluation_of_all_makes_variables, evaluation_keeps_calm, evaluation_of_all_keeps_calm}
use Rattle.pi_settling.proofs.laws.calm.evaluation_keeps_calm.Goals as goal

pub returns-clause-new : goal.returns-clause-new
returns-clause-new c = new_variables_keep_calm

pub returns-clause-makes : goal.returns-clause-makes
returns-clause-makes c = evaluation_makes_variables

pub returns-clause-makes_all : goal.returns-clause-makes_all
returns-clause-makes_all c = evaluation_of_all_makes_variables

pub returns-clause-term : goal.returns-clause-term
returns-clause-term c = evaluation_keeps_calm

pub returns-clause-terms : goal.returns-clause-terms
returns-clause-terms c = evaluation_of_all_keeps_calm

pub returns-clause-adds_up : goal.returns-clause-adds_up
returns-clause-adds_up c = new_variables_add_up

pub returns-clause-slot : goal.returns-clause-slot
returns-clause-slot c = slot_makes_variables
