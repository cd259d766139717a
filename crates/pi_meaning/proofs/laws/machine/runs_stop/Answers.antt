use Rattle.pi_meaning.proofs.Machine.LeadLemmas.{ended-all, tick-begins}
use Rattle.pi_meaning.proofs.Machine.RunLaws.{ended-run, spent-run, run-prefix}
use Rattle.pi_meaning.proofs.laws.machine.runs_stop.Goals as goal

pub returns-clause-ended : goal.returns-clause-ended
returns-clause-ended c = ended-all

pub returns-clause-tick : goal.returns-clause-tick
returns-clause-tick c = tick-begins

pub returns-clause-ended_run : goal.returns-clause-ended_run
returns-clause-ended_run c = ended-run

pub returns-clause-spent_run : goal.returns-clause-spent_run
returns-clause-spent_run c = spent-run

pub returns-clause-prefix : goal.returns-clause-prefix
returns-clause-prefix c = run-prefix
