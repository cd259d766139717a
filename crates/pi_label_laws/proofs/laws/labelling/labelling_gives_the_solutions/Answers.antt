use Rattle.pi_label_laws.proofs.GivesLemmas.{labelling_gives_the_solutions, solve_gives_the_solutions}
use Rattle.pi_label_laws.proofs.laws.labelling.labelling_gives_the_solutions.Goals as goal

pub returns-clause-labelling : goal.returns-clause-labelling
returns-clause-labelling c = labelling_gives_the_solutions

pub returns-clause-solve : goal.returns-clause-solve
returns-clause-solve c = solve_gives_the_solutions
