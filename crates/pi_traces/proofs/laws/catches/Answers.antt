use Rattle.pi_traces.proofs.TraceLemmas.{caught-emit, caught-behind, caught-none, caught-followed}
use Rattle.pi_traces.proofs.laws.catches.Goals as goal

pub returns-clause-events : goal.returns-clause-events
returns-clause-events g c = caught-emit

pub returns-clause-behind : goal.returns-clause-behind
returns-clause-behind g c = caught-behind

pub returns-clause-none : goal.returns-clause-none
returns-clause-none g c = caught-none

pub returns-clause-followed : goal.returns-clause-followed
returns-clause-followed g c = caught-followed
