use Rattle.pi_solve_spec.proofs.BodyLemmas.{goals_ignore_rests, levels_ignore_rests, queries_ignore_rests}
use Rattle.pi_solve_spec.proofs.laws.rests.goals_ignore_rests.Goals as goal

pub returns-clause-goals : goal.returns-clause-goals
returns-clause-goals c = goals_ignore_rests

pub returns-clause-levels : goal.returns-clause-levels
returns-clause-levels c = levels_ignore_rests

pub returns-clause-queries : goal.returns-clause-queries
returns-clause-queries c = queries_ignore_rests
