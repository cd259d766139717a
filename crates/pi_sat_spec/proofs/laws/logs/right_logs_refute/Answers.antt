use Rattle.pi_sat_spec.proofs.LogLemmas.{lemmas_hold, none_over_right_log}
use Rattle.pi_sat_spec.proofs.laws.logs.right_logs_refute.Goals as goal

pub returns-clause-lemmas : goal.returns-clause-lemmas
returns-clause-lemmas c = lemmas_hold

pub returns-clause-none : goal.returns-clause-none
returns-clause-none c = none_over_right_log
