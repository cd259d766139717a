use Rattle.pi_terms.proofs.TermLemmas.{subterm_for_each_cell}
use Rattle.pi_terms.proofs.VariableLemmas.{variables_are_those_that_occur, variables_stand_once, ground_has_no_variable}
use Rattle.pi_terms.proofs.laws.terms.terms_have_parts.Goals as goal

pub returns-clause-subterms : goal.returns-clause-subterms
returns-clause-subterms c = subterm_for_each_cell

pub returns-clause-variables : goal.returns-clause-variables
returns-clause-variables c = variables_are_those_that_occur

pub returns-clause-once : goal.returns-clause-once
returns-clause-once c = variables_stand_once

pub returns-clause-ground : goal.returns-clause-ground
returns-clause-ground c = ground_has_no_variable
