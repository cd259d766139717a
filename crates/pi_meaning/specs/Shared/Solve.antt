-- What `solve` does at a level: labelling, in which an alternative takes one from the depth, and with an objective labelling in rounds. (A User's Guide to Picat, 'Constraints'; Ticks, levels, and that what waits
-- runs in between, are own.)
use Rattle.std.specs.Prelude.{ℕ, zero, suc, ℤ, List, Option, Some, None}
use Rattle.pi_constraints.specs.declared.constraint.Item.{Item}
use Rattle.pi_constraints.specs.State.{State}
use Rattle.pi_traces.specs.Trace.{Trace, end, Raise, done, one, then}
use Rattle.pi_traces.specs.Control.{chosen}
use Rattle.pi_settling.specs.Options.{Options, Objective}
use Rattle.pi_settling.specs.Asked.{Asked, labels, raises}
use Rattle.pi_settling.specs.Confined.{confined}
use Rattle.pi_settling.specs.Label.{Lower, labelled}
use Rattle.pi_settling.specs.Reading.{Solving}
use Rattle.pi_settling.specs.Read.{constraints_read}
use Rattle.pi_settling.specs.Rounds.{begins, betters, worth, weighed, count_better}
use Rattle.pi_meaning.specs.Shared.Level.{Level, lowest, over, calls_at}
use Rattle.pi_meaning.specs.Shared.Settle.{settled}

-- these variables are labelled from a state, where each of them has a domain or is bound
unfoldable pub labelled_in : Options → List Item → Level → State → Trace State
labelled_in o items (lowest c) s = labelled settled None o items s
labelled_in o items (over c l) s = labelled settled (Some (record { drains = (calls_at l).drained; labels = labelled_in o items l })) o items s

-- what the level below does, where there is one
abbrev pub lower_in : Options → List Item → Level → Option Lower
lower_in o items (lowest c) = None
lower_in o items (over c l) = Some (record { drains = (calls_at l).drained; labels = labelled_in o items l })

-- ---- with an objective

-- the options by which each round labels
abbrev pub plain : Options → Options
plain o = record { variable = o.variable; value = o.value; objective = None }

-- how a search settles and reads
abbrev pub searching : Options → List Item → Solving
searching o items = record { settle = settled; drains = λ d s. one s; reading = constraints_read; chosen_options = o; items = items }

-- a round at a level, by what its posting leaves: what waits runs, and labelling begins
abbrev pub round_in : Options → List Item → Level → Trace State → Trace State
round_in o items l posted = then (then posted (calls_at l).drained) (λ s. labelled_in (plain o) items l (confined s items))

-- So many later rounds, each from the state in which the call began, which is the first one; the second one was found last, with this value. Each answer is better than the one before,
-- by what its round posted, so there are no more of them than integers that are better than the first. By that they end at each depth, and take none from it.
unfoldable pub bettered_in : Options → List Item → Objective → Level → State → ℕ → State → ℤ → Trace State
bettered_in o items b l s zero r v = one r
bettered_in o items b l s (suc n) r v =
    chosen (round_in o items l (betters (searching o items) b v s)) (λ q. weighed b q (worth (searching o items) b q) (bettered_in o items b l s n q)) (one r)

-- all rounds
abbrev pub sought_in : Options → List Item → Objective → Level → State → Trace State
sought_in o items b l s =
    chosen (round_in o items l (begins (searching o items) b s))
    (λ q. weighed b q (worth (searching o items) b q) (λ v. bettered_in o items b l s (count_better b.greatest v) q v)) done

-- ---- `solve`

-- labelling begins in the state in which its variables are confined, and a search in the call's
abbrev pub solved_for : Option Objective → Options → List Item → Level → State → Trace State
solved_for None o items l s = labelled_in o items l (confined s items)
solved_for (Some b) o items l s = sought_in o items b l s

-- what a call does that asks for this
abbrev pub solve_trace : Level → State → Asked → Trace State
solve_trace l s (labels o items) = solved_for o.objective o items l s
solve_trace l s (raises ball) = end (Raise ball)
