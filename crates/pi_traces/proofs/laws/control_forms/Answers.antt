use Rattle.pi_traces.proofs.TraceLemmas.{first-first, first-stops, first-all, chosen-then, chosen-else, negated-chosen, collected-list, counted-length, caught-raise, caught-rest}
use Rattle.pi_traces.proofs.laws.control_forms.Goals as goal

pub returns-clause-first : goal.returns-clause-first
returns-clause-first g c = first-first

pub returns-clause-first_stops : goal.returns-clause-first_stops
returns-clause-first_stops g c = first-stops

pub returns-clause-first_all : goal.returns-clause-first_all
returns-clause-first_all g c = first-all

pub returns-clause-chosen_then : goal.returns-clause-chosen_then
returns-clause-chosen_then g c = chosen-then

pub returns-clause-chosen_else : goal.returns-clause-chosen_else
returns-clause-chosen_else g c = chosen-else

pub returns-clause-negated : goal.returns-clause-negated
returns-clause-negated g c = negated-chosen

pub returns-clause-collected : goal.returns-clause-collected
returns-clause-collected g c = collected-list

pub returns-clause-counted : goal.returns-clause-counted
returns-clause-counted g c = counted-length

pub returns-clause-caught : goal.returns-clause-caught
returns-clause-caught g c = caught-raise

pub returns-clause-not_caught : goal.returns-clause-not_caught
returns-clause-not_caught g c = caught-rest
