use Rattle.pi_solve_spec.proofs.WorkLemmas.{whole_logs_bound, reached_bounds_expanded}
use Rattle.pi_solve_spec.proofs.laws.work.bodies_are_bounded.Goals as goal

pub returns-clause-whole : goal.returns-clause-whole
returns-clause-whole c = whole_logs_bound

pub returns-clause-reached : goal.returns-clause-reached
returns-clause-reached c = reached_bounds_expanded
