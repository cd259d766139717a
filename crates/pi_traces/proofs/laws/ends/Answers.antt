use Rattle.pi_traces.proofs.TraceLemmas.{events-and-end, alt-goes_on, alt-first}
use Rattle.pi_traces.proofs.laws.ends.Goals as goal

pub returns-clause-events : goal.returns-clause-events
returns-clause-events g c = events-and-end

pub returns-clause-goes_on : goal.returns-clause-goes_on
returns-clause-goes_on g c = alt-goes_on

pub returns-clause-stops : goal.returns-clause-stops
returns-clause-stops g c = alt-first
