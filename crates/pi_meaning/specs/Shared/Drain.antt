-- Draining: before a goal, and before an answer of a strict place counts, the activations that wait are run (A User's
-- Guide to Picat, 'Action Rules'). No goal makes an activation wait so far, so there is none to run.
use Rattle.pi_constraints.specs.State.{State}
use Rattle.pi_traces.specs.Trace.{Trace, one}

unfoldable pub drained : State → Trace State
drained s = one s
