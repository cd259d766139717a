use Rattle.pi_solve_spec.proofs.BodyLemmas.{bodies_ignore_rests, best_plans_of_programs, planner_calls_ignore_rests}
use Rattle.pi_solve_spec.proofs.laws.rests.bodies_ignore_rests.Goals as goal

pub returns-clause-bodies : goal.returns-clause-bodies
returns-clause-bodies c = bodies_ignore_rests

pub returns-clause-cheapest : goal.returns-clause-cheapest
returns-clause-cheapest c = best_plans_of_programs

pub returns-clause-calls : goal.returns-clause-calls
returns-clause-calls c = planner_calls_ignore_rests
