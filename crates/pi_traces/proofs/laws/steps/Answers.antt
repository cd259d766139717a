use Rattle.std.proofs.Common.{refl}
use Rattle.pi_traces.specs.Trace.{then}
use Rattle.pi_traces.proofs.TraceLemmas.{then-notes, alt-emit}
use Rattle.pi_traces.proofs.laws.steps.Goals as goal

pub returns-clause-end : goal.returns-clause-end
unfolding then
returns-clause-end g c = λ e f. refl

pub returns-clause-note : goal.returns-clause-note
unfolding then
returns-clause-note g c = λ n t f. refl

pub returns-clause-answer : goal.returns-clause-answer
unfolding then
returns-clause-answer g c = λ x t f. refl

pub returns-clause-notes : goal.returns-clause-notes
returns-clause-notes g c = then-notes

pub returns-clause-events : goal.returns-clause-events
returns-clause-events g c = alt-emit
