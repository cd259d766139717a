-- Small states that are settled by computing.
use Rattle.std.specs.Prelude.{◌≡◌, ℕ, pos, negsuc, List, [], ◌∷◌, Some, None, refl}
use Rattle.pi_terms.specs.Tree.{int}
use Rattle.pi_constraints.specs.declared.constraint.Rel.{Rel}
use Rattle.pi_constraints.specs.declared.constraint.Constraint.{Constraint}
use Rattle.pi_constraints.specs.declared.constraint.Item.{Item}
use Rattle.pi_constraints.specs.Domain.{has_value, numbers_from, values_of, overlap, shared, common}
use Rattle.pi_constraints.specs.State.{Variable, within, bound, followed_for, followed}
use Rattle.pi_traces.specs.Trace.{note, Load, one, done}
use Rattle.pi_prop_spec.specs.Ends.{greatest_of}
use Rattle.pi_prop_spec.specs.Places.{sum_places}
use Rattle.pi_prop_spec.specs.Sums.{least_of_all, least_of_others, negated}
use Rattle.pi_prop_spec.specs.Rules.{count_within}
use Rattle.pi_prop_spec.specs.Decided.{each_below, some_below, leaves}
use Rattle.pi_settling.specs.Values.{ahead_of, with_value, domain_of_values}
use Rattle.pi_settling.specs.Events.{variable_events, events_from}
use Rattle.pi_settling.specs.Answers.{leads_for, first_answered, activations_from, activations}
use Rattle.pi_settling.specs.Load.{same_domain, count_due, roots_of}
use Rattle.pi_settling.specs.Settled.{loaded}
use Rattle.pi_settling.specs.Settle.{is_kept, integers_left, variables_left, run_of, runs_of, passes, stable_state, settlement, settled}
use Rattle.pi_settling.proofs.SettlingExamples.{span, from_to, state, at_least_three}

-- X :: 1..5, X #> 2: what is left is 3..5, with a load of 3. With X :: 1..2 nothing is left.
above-two :
    (settled (state (from_to 1 5 ∷ []) [] []) (state (from_to 1 5 ∷ []) (at_least_three ∷ []) []) ≡ note (Load 3) (one (state (from_to 3 5 ∷ []) (at_least_three ∷ []) [])))
    × (settled (state (from_to 1 2 ∷ []) [] []) (state (from_to 1 2 ∷ []) (at_least_three ∷ []) []) ≡ note (Load 3) done)
unfolding each_below some_below leaves sum_places least_of_all least_of_others negated count_within has_value greatest_of numbers_from values_of overlap shared common ahead_of with_value domain_of_values is_kept integers_left variables_left run_of runs_of passes stable_state settlement settled loaded count_due roots_of same_domain variable_events events_from followed followed_for leads_for first_answered activations_from activations
above-two = (refl, refl)

abbrev is : ℕ → Variable
is n = bound (int (pos n))

-- variable m #< variable n
abbrev less : ℕ → ℕ → Constraint
less m n = Constraint.Linear Rel.AtMost ((pos 1, m) ∷ (negsuc 0, n) ∷ []) (pos 1)

-- what the variables are where constraints are settled
abbrev settles-to : List Variable → List Constraint → List Variable → Type 0
settles-to vs cs ws = stable_state (state vs cs []) ≡ Some (state ws cs [])

-- X #< Y, Y #< Z over 1..3 is 1, 2, 3, for which a second pass is wanted: over 1..2 there is nothing
chain :
    settles-to (from_to 1 3 ∷ from_to 1 3 ∷ from_to 1 3 ∷ []) (less 0 1 ∷ less 1 2 ∷ []) (is 1 ∷ is 2 ∷ is 3 ∷ [])
    × (stable_state (state (from_to 1 2 ∷ from_to 1 2 ∷ from_to 1 2 ∷ []) (less 0 1 ∷ less 1 2 ∷ []) []) ≡ None)
unfolding each_below some_below leaves sum_places least_of_all least_of_others negated count_within has_value greatest_of numbers_from values_of overlap shared common ahead_of with_value domain_of_values is_kept integers_left variables_left run_of runs_of passes stable_state settlement settled loaded count_due roots_of same_domain variable_events events_from followed followed_for leads_for first_answered activations_from activations
chain = (refl, refl)

abbrev three : List Item
three = Item.Var 0 ∷ Item.Var 1 ∷ Item.Var 2 ∷ []

-- X and Y over 1..2 leave nothing but 3 of Z, of which `all_different` sees nothing
distinct :
    settles-to (from_to 1 2 ∷ from_to 1 2 ∷ from_to 1 3 ∷ []) (Constraint.Distinct three ∷ []) (from_to 1 2 ∷ from_to 1 2 ∷ is 3 ∷ [])
    × settles-to (from_to 1 2 ∷ from_to 1 2 ∷ from_to 1 3 ∷ []) (Constraint.Different three ∷ []) (from_to 1 2 ∷ from_to 1 2 ∷ from_to 1 3 ∷ [])
unfolding each_below some_below leaves sum_places least_of_all least_of_others negated count_within has_value greatest_of numbers_from values_of overlap shared common ahead_of with_value domain_of_values is_kept integers_left variables_left run_of runs_of passes stable_state settlement settled loaded count_due roots_of same_domain variable_events events_from followed followed_for leads_for first_answered activations_from activations
distinct = (refl, refl)

-- X is the item of [4, 6, 9] whose number is I; X over 1..6 isn't 9
item : settles-to (from_to 1 3 ∷ from_to 1 6 ∷ []) (Constraint.Element (Item.Var 0) (Item.Int (pos 4) ∷ Item.Int (pos 6) ∷ Item.Int (pos 9) ∷ []) (Item.Var 1) ∷ [])
    (from_to 1 2 ∷ within (span 4 4 ∷ span 6 6 ∷ []) ∷ [])
unfolding each_below some_below leaves sum_places least_of_all least_of_others negated count_within has_value greatest_of numbers_from values_of overlap shared common ahead_of with_value domain_of_values is_kept integers_left variables_left run_of runs_of passes stable_state settlement settled loaded count_due roots_of same_domain variable_events events_from followed followed_for leads_for first_answered activations_from activations
item = refl

-- T is the truth of X #> 2; Z is X * Y, and A is the absolute value of B
others :
    settles-to (from_to 0 1 ∷ from_to 1 2 ∷ []) (Constraint.Reified (Item.Var 0) Rel.AtMost ((negsuc 0, 1) ∷ []) (pos 3) ∷ []) (is 0 ∷ from_to 1 2 ∷ [])
    × settles-to (is 1 ∷ from_to 1 5 ∷ []) (Constraint.Reified (Item.Var 0) Rel.AtMost ((negsuc 0, 1) ∷ []) (pos 3) ∷ []) (is 1 ∷ from_to 3 5 ∷ [])
    × settles-to (from_to 5 9 ∷ from_to 1 3 ∷ is 3 ∷ []) (Constraint.Product (Item.Var 0) (Item.Var 1) (Item.Var 2) ∷ []) (from_to 6 9 ∷ from_to 2 3 ∷ is 3 ∷ [])
    × settles-to (from_to 2 9 ∷ within (record { lo = negsuc 2; hi = pos 1 } ∷ []) ∷ []) (Constraint.Absolute (Item.Var 0) (Item.Var 1) ∷ []) (from_to 2 3 ∷ within (record { lo = negsuc 2; hi = pos 1 } ∷ []) ∷ [])
unfolding each_below some_below leaves sum_places least_of_all least_of_others negated count_within has_value greatest_of numbers_from values_of overlap shared common ahead_of with_value domain_of_values is_kept integers_left variables_left run_of runs_of passes stable_state settlement settled loaded count_due roots_of same_domain variable_events events_from followed followed_for leads_for first_answered activations_from activations
others = (refl, refl, refl, refl)
