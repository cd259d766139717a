use Rattle.pi_label_laws.proofs.BestLemmas.{objective_gives_the_best}
use Rattle.pi_label_laws.proofs.ReadRightly.{reading_is_right, solve_gives_the_best}
use Rattle.pi_label_laws.proofs.laws.labelling.an_objective_gives_the_best.Goals as goal

pub returns-clause-objective : goal.returns-clause-objective
returns-clause-objective c = objective_gives_the_best

pub returns-clause-reading : goal.returns-clause-reading
returns-clause-reading c = reading_is_right

pub returns-clause-solve : goal.returns-clause-solve
returns-clause-solve c = solve_gives_the_best
