use Rattle.pi_settling.proofs.FirstLemmas.{first_is_one, first_of_all, sat_solved_is_one}
use Rattle.pi_settling.proofs.laws.labelling.first_assignments_are_one.Goals as goal

pub returns-clause-one : goal.returns-clause-one
returns-clause-one c = first_is_one

pub returns-clause-of_all : goal.returns-clause-of_all
returns-clause-of_all c = first_of_all

pub returns-clause-sat : goal.returns-clause-sat
returns-clause-sat c = sat_solved_is_one
