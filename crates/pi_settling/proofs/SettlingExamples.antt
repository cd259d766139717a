-- Small states, worked through the definitions: what they are meant to say of loads, events and the agents that they wake.
use Rattle.std.specs.Prelude.{◌≡◌, ℕ, pos, negsuc, Bool, true, false, List, [], ◌∷◌, Some, None, refl}
use Rattle.pi_terms.specs.Tree.{var, int}
use Rattle.pi_constraints.specs.declared.constraint.Rel.{Rel}
use Rattle.pi_constraints.specs.declared.constraint.Constraint.{Constraint}
use Rattle.pi_constraints.specs.declared.constraint.Item.{Item}
use Rattle.pi_constraints.specs.declared.domain.Span.{Span}
use Rattle.pi_constraints.specs.Domain.{has_value, numbers_from, values_of}
use Rattle.pi_prop_spec.specs.Ends.{greatest_of}
use Rattle.pi_prop_spec.specs.Places.{sum_places}
use Rattle.pi_constraints.specs.State.{State, Agent, Variable, free, within, bound, on_ins, on_dom, followed_for, followed, with_waiting}
use Rattle.pi_constraints.specs.declared.event.Event.{Event}
use Rattle.pi_constraints.specs.declared.event.Activation.{Activation}
use Rattle.pi_settling.specs.Events.{variable_events, events_from, events_between}
use Rattle.pi_settling.specs.Answers.{leads_for, first_answered, activations_from, activations}
use Rattle.pi_settling.specs.Load.{same_domain, count_due, roots_of, load, load_of_failure}
use Rattle.pi_settling.specs.Settled.{with_events}

abbrev pub span : ℕ → ℕ → Span
span lo hi = record { lo = pos lo; hi = pos hi }

abbrev pub from_to : ℕ → ℕ → Variable
from_to lo hi = within (span lo hi ∷ [])

abbrev pub state : List Variable → List Constraint → List Agent → State
state vs cs agents = record { variables = vs; constraints = cs; agents = agents; waiting = [] }

-- 3 - X =< 0, so that X is 3 at least
abbrev pub at_least_three : Constraint
at_least_three = Constraint.Linear Rel.AtMost ((negsuc 0, 0) ∷ []) (pos 3)

-- X - 3 =< 0
abbrev at_most_three : Constraint
at_most_three = Constraint.Linear Rel.AtMost ((pos 1, 0) ∷ []) (negsuc 2)

-- X :: 1..5, X #> 2, (X #< 4 ; X #> 3): the loads of the three goals that post. A constraint that was there is due where its variable changed.
loads-of_postings :
    (load (state (from_to 1 5 ∷ []) [] []) (state (from_to 1 5 ∷ []) (at_least_three ∷ []) []) (state (from_to 3 5 ∷ []) (at_least_three ∷ []) []) ≡ 3)
    × (load (state (from_to 3 5 ∷ []) (at_least_three ∷ []) []) (state (from_to 3 5 ∷ []) (at_least_three ∷ at_most_three ∷ []) [])
    (state (bound (int (pos 3)) ∷ []) (at_least_three ∷ at_most_three ∷ []) []) ≡ 5)
    × (load (state (from_to 1 5 ∷ []) (at_least_three ∷ []) []) (state (bound (int (pos 4)) ∷ []) (at_least_three ∷ []) []) (state (bound (int (pos 4)) ∷ []) (at_least_three ∷ []) []) ≡ 1)
    × (load_of_failure (state (from_to 1 5 ∷ []) (at_least_three ∷ []) []) (state (from_to 1 2 ∷ []) (at_least_three ∷ []) []) ≡ 3)
unfolding count_due roots_of same_domain sum_places values_of numbers_from has_value followed followed_for
loads-of_postings = (refl, refl, refl, refl)

-- What a variable's domain loses, its ends, and that it is bound. A value of an end is no inner one.
events-of_domains :
    (events_between (state (from_to 1 5 ∷ []) [] []) (state (from_to 3 5 ∷ []) [] []) ≡ Event.Bound 0 ∷ Event.Excluded 0 (pos 1) false ∷ Event.Excluded 0 (pos 2) true ∷ [])
    × (events_between (state (from_to 1 3 ∷ []) [] []) (state (bound (int (pos 2)) ∷ []) [] [])
    ≡ Event.Ins 0 ∷ Event.Bound 0 ∷ Event.Excluded 0 (pos 1) false ∷ Event.Excluded 0 (pos 3) false ∷ [])
    × (events_between (state (from_to 1 5 ∷ []) [] []) (state (within (span 1 2 ∷ span 4 5 ∷ []) ∷ []) [] []) ≡ Event.Excluded 0 (pos 3) true ∷ [])
    × (events_between (state (from_to 1 5 ∷ []) [] []) (state (from_to 1 4 ∷ []) [] []) ≡ Event.Bound 0 ∷ Event.Excluded 0 (pos 5) false ∷ [])
unfolding variable_events events_from values_of numbers_from has_value greatest_of followed followed_for
events-of_domains = (refl, refl, refl, refl)

-- Two variables that are made equal have no `ins`; a variable without a domain has that event alone, and a bound one none.
events-of_bindings :
    (events_between (state (from_to 1 3 ∷ from_to 2 4 ∷ []) [] []) (state (from_to 2 3 ∷ bound (var 0) ∷ []) [] [])
    ≡ Event.Bound 0 ∷ Event.Excluded 0 (pos 1) false ∷ Event.Bound 1 ∷ Event.Excluded 1 (pos 4) false ∷ [])
    × (events_between (state (free ∷ free ∷ bound (int (pos 1)) ∷ []) [] []) (state (bound (int (pos 5)) ∷ bound (var 0) ∷ bound (int (pos 1)) ∷ []) [] []) ≡ Event.Ins 0 ∷ Event.Ins 1 ∷ [])
    × (events_between (state (free ∷ []) [] []) (state (from_to 1 2 ∷ []) [] []) ≡ [])
unfolding variable_events events_from values_of numbers_from has_value greatest_of followed followed_for
events-of_bindings = (refl, refl, refl)

abbrev agent : Bool → Agent
agent alive = record { call = var 0; rule = 0; watches = on_ins (var 1) ∷ on_dom (var 0) 1 ∷ on_dom (var 0) 2 ∷ []; alive = alive }

abbrev with_agents : List Agent → List Variable → State
with_agents agents vs = state vs [] agents

abbrev waking : ℕ → ℕ → Activation
waking a w = record { agent = a; watch = w; value = Some (int (pos 3)) }

-- X #!= 3 over 1..5: each living agent is woken once, by its first pattern, in the order in which they were made, behind what waits already. A value of an end
-- wakes no `dom`.
agents-woken :
    (activations (with_agents (agent true ∷ agent false ∷ agent true ∷ []) (free ∷ free ∷ [])) (Event.Excluded 0 (pos 3) true ∷ []) ≡ waking 0 1 ∷ waking 2 1 ∷ [])
    × (activations (with_agents (agent true ∷ []) (free ∷ free ∷ [])) (Event.Excluded 0 (pos 3) false ∷ Event.Excluded 1 (pos 3) true ∷ Event.Bound 0 ∷ []) ≡ [])
    × (activations (with_agents (agent true ∷ []) (bound (int (pos 3)) ∷ bound (var 0) ∷ [])) (Event.Ins 0 ∷ Event.Ins 1 ∷ [])
    ≡ record { agent = 0; watch = 0; value = None } ∷ record { agent = 0; watch = 0; value = None } ∷ [])
    × ((with_events (with_agents (agent true ∷ []) (from_to 1 5 ∷ free ∷ [])) (with_waiting (with_agents (agent true ∷ []) (within (span 1 2 ∷ span 4 5 ∷ []) ∷ free ∷ [])) (waking 7 7 ∷ []))).waiting
    ≡ waking 7 7 ∷ waking 0 1 ∷ [])
unfolding variable_events events_from values_of numbers_from has_value greatest_of followed followed_for leads_for first_answered activations_from activations
agents-woken = (refl, refl, refl, refl)

-- |Y| = X, where Y is bound to X: what X loses counts once. |Y| = Y, where Y becomes X: it is due, since Y was unbound before.
loads-of_one_variable :
    (load (state (from_to 1 5 ∷ bound (var 0) ∷ []) (Constraint.Absolute (Item.Var 0) (Item.Var 1) ∷ []) []) (state (from_to 1 5 ∷ bound (var 0) ∷ []) (Constraint.Absolute (Item.Var 0) (Item.Var 1) ∷ []) [])
    (state (from_to 1 3 ∷ bound (var 0) ∷ []) (Constraint.Absolute (Item.Var 0) (Item.Var 1) ∷ []) []) ≡ 2)
    × (load (state (from_to 1 5 ∷ from_to 1 5 ∷ []) (Constraint.Absolute (Item.Var 1) (Item.Var 1) ∷ []) []) (state (from_to 1 5 ∷ bound (var 0) ∷ []) (Constraint.Absolute (Item.Var 1) (Item.Var 1) ∷ []) [])
    (state (from_to 1 5 ∷ bound (var 0) ∷ []) (Constraint.Absolute (Item.Var 1) (Item.Var 1) ∷ []) []) ≡ 1)
unfolding count_due roots_of same_domain values_of numbers_from has_value followed followed_for
loads-of_one_variable = (refl, refl)
