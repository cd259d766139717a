use Rattle.pi_settling.proofs.DrainLemmas.{draining_nothing, ended_are_passed_over, first_in_first_out}
use Rattle.pi_settling.proofs.laws.agents.what_waits_runs_in_order.Goals as goal

pub returns-clause-nothing : goal.returns-clause-nothing
returns-clause-nothing g c = draining_nothing

pub returns-clause-ended : goal.returns-clause-ended
returns-clause-ended g c = ended_are_passed_over

pub returns-clause-order : goal.returns-clause-order
returns-clause-order g c = first_in_first_out
