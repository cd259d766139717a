-- The paths of labelling: an alternative is a choice, by its number in its pick. With an objective it is a strict place, and makes none. (Own.)
use Rattle.std.specs.Prelude.{ℕ, zero, suc, List, map, Option, Some, None}
use Rattle.pi_constraints.specs.declared.constraint.Item.{Item}
use Rattle.pi_constraints.specs.State.{State}
use Rattle.pi_traces.specs.Trace.{done}
use Rattle.pi_settling.specs.Options.{Options, Objective}
use Rattle.pi_settling.specs.Confined.{confined}
use Rattle.pi_settling.specs.Choices.{Pending, pending, picked, Alternative, alternatives as alternatives_of, left_by, narrowed_to}
use Rattle.pi_settling.specs.Label.{Settling, Lower as PlainLower}
use Rattle.pi_settling.specs.Reading.{Solving}
use Rattle.pi_settling.specs.Rounds.{sought}
use Rattle.pi_resume_spec.specs.Resumed.{Search, simple, sequence, alternatives, ticked}
use Rattle.pi_resume_spec.specs.Searches.{only, too_deep, without_paths}

-- what the next lower depth does
pub record Lower : Type 0 where
  pub drains : State → Search State
  pub labels : State → Search State

abbrev pub plain_lower : Lower → PlainLower
plain_lower l = record { drains = λ s. without_paths (l.drains s); labels = λ s. without_paths (l.labels s) }

-- an alternative is a goal: it is settled, what waits runs, and labelling goes on
abbrev pub tried : Settling → Lower → State → Option State → Search State
tried settle l s None = simple done
tried settle l s (Some r) = sequence (sequence (simple (settle s r)) l.drains) l.labels

abbrev pub one_tried : Settling → Option Lower → State → Option State → Search State
one_tried settle None s r = too_deep
one_tried settle (Some l) s r = ticked (tried settle l s r)

abbrev pub tries : Settling → Option Lower → State → Pending → List Alternative → List (Search State)
tries settle below s p alts = map (λ a. one_tried settle below s (narrowed_to s p.variable (left_by a p.domain))) alts

abbrev pub labelled_by : Settling → Option Lower → Options → State → Option Pending → Search State
labelled_by settle below o s None = only s
labelled_by settle below o s (Some p) = alternatives (tries settle below s p (alternatives_of o.value p.domain))

abbrev pub labelled : Settling → Option Lower → Options → List Item → State → Search State
labelled settle below o items s = labelled_by settle below o s (picked (pending s items) o.variable)

-- at each depth, where this is what draining does there
unfoldable pub labelled_at : Settling → (ℕ → State → Search State) → Options → List Item → ℕ → State → Search State
labelled_at settle drains o items zero s = labelled settle None o items s
labelled_at settle drains o items (suc d) s = labelled settle (Some (record { drains = drains d; labels = labelled_at settle drains o items d })) o items s

-- where it begins
abbrev pub labelling : Settling → (ℕ → State → Search State) → Options → List Item → ℕ → State → Search State
labelling settle drains o items d s = labelled_at settle drains o items d (confined s items)

-- `solve`, with an objective or without one, where draining has these paths
abbrev pub solved_for : Solving → (ℕ → State → Search State) → Option Objective → ℕ → State → Search State
solved_for p drains None d s = labelling p.settle drains p.chosen_options p.items d s
solved_for p drains (Some o) d s = simple (sought p o d s)
