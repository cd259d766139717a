-- Labelling: while some variable is unbound one is picked, and its alternatives are tried in order. Each is a goal: a Tick, its settling, and what waits
-- then; from each answer of that it goes on. How a state is settled and what runs what waits are parameters, so that this serves the meaning over names
-- and the core meaning. (A User's Guide to Picat, 'Constraints'; Ticks, and that what waits runs in between, are own.)
use Rattle.std.specs.Prelude.{ℕ, zero, suc, List, [], ◌∷◌, Option, Some, None}
use Rattle.pi_constraints.specs.declared.constraint.Item.{Item}
use Rattle.pi_traces.specs.Trace.{Trace, end, note, Deep, Tick, done, one, alt, then}
use Rattle.pi_constraints.specs.State.{State}
use Rattle.pi_settling.specs.Options.{Options}
use Rattle.pi_settling.specs.Confined.{confined}
use Rattle.pi_settling.specs.Choices.{Pending, pending, picked, Alternative, alternatives, left_by, narrowed_to}

-- what a state that a goal left comes to, settled from the one in which the goal began
abbrev pub Settling : Type 0
Settling = State → State → Trace State

-- what the next lower depth does: an alternative takes one from the depth
pub record Lower : Type 0 where
  pub drains : State → Trace State
  pub labels : State → Trace State

-- ---- without an objective

abbrev pub tried : Settling → Lower → State → Option State → Trace State
tried settle l s None = done
tried settle l s (Some r) = then (then (settle s r) l.drains) l.labels

abbrev pub one_tried : Settling → Option Lower → State → Option State → Trace State
one_tried settle None s r = end Deep
one_tried settle (Some l) s r = note Tick (tried settle l s r)

-- alternatives in order
unfoldable pub all_tried : Settling → Option Lower → State → Pending → List Alternative → Trace State
all_tried settle below s p [] = done
all_tried settle below s p (a ∷ more) = alt (one_tried settle below s (narrowed_to s p.variable (left_by a p.domain))) (all_tried settle below s p more)

abbrev pub labelled_by : Settling → Option Lower → Options → State → Option Pending → Trace State
labelled_by settle below o s None = one s
labelled_by settle below o s (Some p) = all_tried settle below s p (alternatives o.value p.domain)

abbrev pub labelled : Settling → Option Lower → Options → List Item → State → Trace State
labelled settle below o items s = labelled_by settle below o s (picked (pending s items) o.variable)

-- at each depth, where this is what draining does there
unfoldable pub labelled_at : Settling → (ℕ → State → Trace State) → Options → List Item → ℕ → State → Trace State
labelled_at settle drains o items zero = labelled settle None o items
labelled_at settle drains o items (suc d) = labelled settle (Some (record { drains = drains d; labels = labelled_at settle drains o items d })) o items

-- ---- where it begins: its variables are confined, and its alternatives are goals that begin there

abbrev pub labelling : Settling → (ℕ → State → Trace State) → Options → List Item → ℕ → State → Trace State
labelling settle drains o items d s = labelled_at settle drains o items d (confined s items)
