use Rattle.pi_solve_spec.proofs.WorkLemmas.{work_is_bounded, greater_budgets_last}
use Rattle.pi_solve_spec.proofs.laws.work.greater_budgets_last.Goals as goal

pub returns-clause-work : goal.returns-clause-work
returns-clause-work g c = work_is_bounded

pub returns-clause-budget : goal.returns-clause-budget
returns-clause-budget g c = greater_budgets_last
