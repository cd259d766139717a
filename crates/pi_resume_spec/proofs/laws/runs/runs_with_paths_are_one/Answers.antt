use Rattle.pi_resume_spec.proofs.PathRunLemmas.{one-path_run, deeper-path_run, one-resumed_run, deeper-resumed_run}
use Rattle.pi_resume_spec.proofs.laws.runs.runs_with_paths_are_one.Goals as goal

pub returns-clause-run : goal.returns-clause-run
returns-clause-run c = one-path_run

pub returns-clause-deeper : goal.returns-clause-deeper
returns-clause-deeper c = deeper-path_run

pub returns-clause-resumed : goal.returns-clause-resumed
returns-clause-resumed c = one-resumed_run

pub returns-clause-resumed_deeper : goal.returns-clause-resumed_deeper
returns-clause-resumed_deeper c = deeper-resumed_run
