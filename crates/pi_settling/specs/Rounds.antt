-- Labelling with an objective, in rounds: each begins from the call's state, the first with what the reading of the expression posts, each later one with
-- a better value posted, and takes its first answer. The first round without an answer ends the search, and the last answer that was found is the one
-- answer. A later round takes one from the depth. (A User's Guide to Picat, 'Constraints'; the rounds are own.)
use Rattle.std.specs.Prelude.{ℕ, zero, suc, ◌-◌, ◌^◌, min, ℤ, pos, negsuc, ◌+ℤ◌, ◌-ℤ◌, Bool, true, false, List, Option, Some, None, codes}
use Rattle.pi_terms.specs.Tree.{int}
use Rattle.pi_traces.specs.Trace.{Trace, end, Raise, Deep, done, one, then}
use Rattle.pi_traces.specs.Control.{chosen}
use Rattle.pi_constraints.specs.State.{State}
use Rattle.pi_effects.specs.Exception.{type_error}
use Rattle.pi_settling.specs.Options.{Objective}
use Rattle.pi_settling.specs.Label.{Settling, labelling}
use Rattle.pi_settling.specs.Reading.{Operand, reads, refuses, operand_value, Solving}

-- what the reading of an operand posts, settled
abbrev pub operand_posted : Settling → State → Operand → Trace State
operand_posted settle s (reads r sum) = settle s r
operand_posted settle s (refuses ball) = end (Raise ball)

-- the first round's posting
abbrev pub begins : Solving → Objective → State → Trace State
begins p o s = operand_posted p.settle s (p.reading.operand o.expression s)

-- a better value is a smaller one under `$min`, and a greater one under `$max`
abbrev pub better_sign : Bool → List ℕ
better_sign false = codes "#<"
better_sign true = codes "#>"

-- a later round's: that the expression has a value better than this one, settled
abbrev pub betters : Solving → Objective → ℤ → State → Trace State
betters p o v s = then (p.reading.relation (better_sign o.greatest) o.expression (int v) s) (p.settle s)

-- the expression's value, where it is an integer in the state
abbrev pub worth : Solving → Objective → State → Option ℤ
worth p o s = operand_value (p.reading.operand o.expression s)

-- a round at a depth: from each answer of its posting, what waits runs and labelling begins
abbrev pub round : Solving → ℕ → Trace State → Trace State
round p d posted = then (then posted (p.drains d)) (labelling p.settle p.drains p.chosen_options p.items d)

-- what follows an answer that was found: the exception where the expression is no integer there
abbrev pub weighed : Objective → State → Option ℤ → (ℤ → Trace State) → Trace State
weighed o r None next = end (Raise (type_error (codes "integer") o.expression r))
weighed o r (Some v) next = next v

-- the later rounds of a call that began in the first state, where the second one was found last, with this value
unfoldable pub bettered : Solving → Objective → ℕ → State → State → ℤ → Trace State
bettered p o zero s r v = end Deep
bettered p o (suc d) s r v = chosen (round p d (betters p o v s)) (λ q. weighed o q (worth p o q) (bettered p o d s q)) (one r)

-- all rounds
abbrev pub sought : Solving → Objective → ℕ → State → Trace State
sought p o d s = chosen (round p d (begins p o s)) (λ q. weighed o q (worth p o q) (bettered p o d s q)) done

-- how many integers of 128 bits are better than a value
abbrev pub from_zero : ℤ → ℕ
from_zero (pos n) = n
from_zero (negsuc n) = 0

abbrev pub count_better : Bool → ℤ → ℕ
count_better false v = min (from_zero (v +ℤ pos (2 ^ 127))) (2 ^ 128 - 1)
count_better true v = min (from_zero (pos (2 ^ 127 - 1) -ℤ v)) (2 ^ 128 - 1)

-- ---- `solve`, with an objective or without one

abbrev pub solved_for : Solving → Option Objective → ℕ → State → Trace State
solved_for p None d s = labelling p.settle p.drains p.chosen_options p.items d s
solved_for p (Some o) d s = sought p o d s

abbrev pub solved : Solving → ℕ → State → Trace State
solved p d s = solved_for p p.chosen_options.objective d s
