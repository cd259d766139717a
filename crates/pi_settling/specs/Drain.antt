-- Draining: before a goal, and before an answer of a strict place counts, the activations that wait are run, first in, first out. One Tick each, and each
-- answer is drained in turn; an activation of an agent that has ended is passed over without one. (A User's Guide to Picat, 'Action Rules'; Ticks and the
-- order are own.)
use Rattle.std.specs.Prelude.{ℕ, cond, List, [], ◌∷◌, Option, Some, None, slice_get}
use Rattle.pi_traces.specs.Trace.{Trace, end, note, Deep, Tick, one, then}
use Rattle.pi_constraints.specs.State.{State, Agent, with_waiting}
use Rattle.pi_constraints.specs.declared.event.Activation.{Activation}
use Rattle.pi_settling.specs.Fire.{Rules, fired}

-- what the next lower depth does: an activation's Tick takes one from the depth
pub record Lower (X : Type 0) : Type 0 where
  pub rules : Rules X
  pub drains : State → Trace State

abbrev pub if_alive : Option Agent → Option Agent
if_alive None = None
if_alive (Some agent) = cond agent.alive (Some agent) None

-- the agent with this number, where it was made and is alive
abbrev pub living : State → ℕ → Option Agent
living s n = if_alive (slice_get s.agents n)

-- the first activation, in a state in which those behind it wait
abbrev pub woken : {X : Type 0} → Option (Lower X) → State → Activation → Option Agent → Trace State → Trace State
woken below s a None later = later
woken None s a (Some agent) later = end Deep
woken (Some l) s a (Some agent) later = note Tick (then (fired l.rules s a agent) l.drains)

unfoldable pub drained_from : {X : Type 0} → Option (Lower X) → State → List Activation → Trace State
drained_from below s [] = one (with_waiting s [])
drained_from below s (a ∷ rest) = woken below (with_waiting s rest) a (living s a.agent) (drained_from below s rest)

-- what runs what waits in a state; at the lowest depth there is nothing below
abbrev pub drained : {X : Type 0} → Option (Lower X) → State → Trace State
drained below s = drained_from below s s.waiting
