use Rattle.pi_solve_spec.proofs.KnownLemmas.{right_stays_right, right_logs_are_right}
use Rattle.pi_solve_spec.proofs.laws.plans.logs_stay_right.Goals as goal

pub returns-clause-longer : goal.returns-clause-longer
returns-clause-longer c = right_stays_right

pub returns-clause-whole : goal.returns-clause-whole
returns-clause-whole c = right_logs_are_right
