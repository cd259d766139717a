-- Calls of `solve` with paths, worked out.
use Rattle.std.specs.Prelude.{◌≡◌, ℕ, pos, negsuc, List, [], ◌∷◌, codes, refl}
use Rattle.pi_terms.specs.Tree.{Tree, var, int, atom, comp, Trees, no_trees, trees_of, tree, tree_count, cells}
use Rattle.pi_terms.specs.Variables.{occurrences, firsts}
use Rattle.pi_terms.specs.Substitution.{instance}
use Rattle.pi_terms.specs.Copy.{copy}
use Rattle.pi_constraints.specs.declared.constraint.Constraint.{Constraint}
use Rattle.pi_constraints.specs.declared.constraint.Rel.{Rel}
use Rattle.pi_constraints.specs.Domain.{has_value, numbers_from, values_of, overlap, shared, common}
use Rattle.pi_constraints.specs.State.{State, Variable, within, bound, followed_for, followed}
use Rattle.pi_constraints.specs.Value.{rounds, value}
use Rattle.pi_constraints.specs.Evaluation.{with_new_variables}
use Rattle.pi_prop_spec.specs.Decided.{each_below, some_below, leaves}
use Rattle.pi_prop_spec.specs.Ends.{greatest_of}
use Rattle.pi_prop_spec.specs.Limits.{are_narrow, are_values, first_refusal}
use Rattle.pi_prop_spec.specs.Places.{sum_places}
use Rattle.pi_prop_spec.specs.PostingSums.{with_term, with_terms, scaled_terms}
use Rattle.pi_prop_spec.specs.Relations.{read_relation}
use Rattle.pi_prop_spec.specs.Steps.{have_128_bits, read_operand, read_items}
use Rattle.pi_prop_spec.specs.Sums.{least_of_all, least_of_others, negated}
use Rattle.pi_prop_spec.specs.Terms.{operand_of, operands_of, operands_of_array, operands_of_list, comparison_named, connective_named, boolean_of, goal_of}
use Rattle.pi_effects.specs.Exception.{exception_with, type_error}
use Rattle.pi_effects.specs.Items.{each_tree, list_onto, list_of, items_for, list_items}
use Rattle.pi_effects.specs.Rows.{done_by}
use Rattle.pi_traces.specs.Trace.{end, note, ans, Done, Raise, Deep, Tick, Load, done, alt, then}
use Rattle.pi_settling.specs.Options.{words_read}
use Rattle.pi_settling.specs.Asked.{flat_all, flat_for}
use Rattle.pi_settling.specs.SolveCalls.{solve_calls}
use Rattle.pi_settling.specs.Confined.{confined}
use Rattle.pi_settling.specs.Posted.{with_constraints, places_of_all}
use Rattle.pi_settling.specs.Settle.{settlement as settlement_of_goal, stable_state, passes, runs_of, run_of, is_kept, integers_left, variables_left}
use Rattle.pi_settling.specs.Settled.{loaded}
use Rattle.pi_settling.specs.Load.{count_due, same_domain, roots_of}
use Rattle.pi_settling.specs.Values.{ahead_of, with_value, domain_of_values}
use Rattle.pi_settling.specs.Events.{events_from, variable_events}
use Rattle.pi_settling.specs.Answers.{activations, activations_from, leads_for, first_answered}
use Rattle.pi_meaning.specs.Shared.Settle.{settled, settlement, is_unchanged, are_unchanged}
use Rattle.pi_meaning.specs.Shared.Solve.{labelled_in as plain_labelled_in, bettered_in}
use Rattle.pi_traces.specs.Control.{chosen}
use Rattle.pi_settling.specs.Label.{all_tried}
use Rattle.pi_resume_spec.specs.Ways.{Way, choice_from}
use Rattle.pi_resume_spec.specs.Resumed.{a_tick, on_way, reached, cut_off, bad, Search, simple, to_answer, with_rest, follows_then, taken_from}
use Rattle.pi_resume_spec.specs.Searches.{Searches, SearchLevel, bottom, above, plain_level, only}
use Rattle.pi_resume_spec.specs.Solve.{labelled_in, solve_or_unknown}

abbrev state : List Variable → State
state vs = record { variables = vs; constraints = []; agents = []; waiting = [] }

abbrev is : ℕ → Variable
is n = bound (int (pos n))

abbrev two : State
two = state (within (record { lo = pos 1; hi = pos 2 } ∷ []) ∷ [])

abbrev calls : Searches
calls = record { called = λ name ts s. simple done; applied = λ name ts s. done; drained = λ s. only s }

abbrev one_above : SearchLevel
one_above = above calls (bottom calls)

unfoldable solve : SearchLevel → Trees → Search State
unfolding solve_calls done_by labelled_in words_read flat_all flat_for exception_with type_error each_tree list_onto items_for list_items tree_count cells occurrences firsts instance copy rounds value followed followed_for confined has_value values_of numbers_from overlap shared common greatest_of settled settlement is_unchanged are_unchanged settlement_of_goal stable_state passes runs_of loaded count_due same_domain events_from variable_events activations activations_from then alt to_answer with_rest follows_then taken_from choice_from
solve l ts = solve_or_unknown l (codes "solve") ts two

abbrev plainly : Tree → Trees
plainly t = tree t no_trees

abbrev x : Tree
x = list_of (var 0 ∷ [])

abbrev way : List ℕ → State → Way State
way p s = record { path = p; answer = s }

-- an alternative is a choice; at the lowest level it is too deep, and an exception is none
solves :
    ((solve one_above (plainly x)).ways ≡ note Tick (ans (way (1 ∷ []) (state (is 1 ∷ []))) (note Tick (ans (way (2 ∷ []) (state (is 2 ∷ []))) (end Done)))))
    × ((solve one_above (plainly x)).follows (2 ∷ []) ≡ on_way a_tick (reached (2 ∷ []) (state (is 2 ∷ [])) [] (end Done)))
    × ((solve one_above (plainly x)).follows (3 ∷ []) ≡ bad)
    × ((solve one_above (tree (list_of (atom (codes "down") ∷ [])) (tree x no_trees))).follows (1 ∷ []) ≡
    on_way a_tick (reached (1 ∷ []) (state (is 2 ∷ [])) [] (note Tick (ans (way (2 ∷ []) (state (is 1 ∷ []))) (end Done)))))
    × ((solve (bottom calls) (plainly x)).follows (1 ∷ []) ≡ cut_off Deep)
    × ((solve one_above (plainly (list_of (int (pos 7) ∷ [])))).ways ≡ ans (way [] two) (end Done))
    × ((solve one_above (plainly (atom (codes "a")))).ways ≡ end (Raise (comp (codes "type_error") (tree (atom (codes "integer")) (tree (atom (codes "a")) no_trees)))))
unfolding solve
solves = (refl, refl, refl, refl, refl, refl, refl)

-- ---- with an objective

-- solve([$max(E)],[X])
abbrev most : Tree → Trees
most e = tree (list_of (comp (codes "max") (trees_of (e ∷ [])) ∷ [])) (tree x no_trees)

-- X is 2, where a round posted that it is above 1
abbrev best : State
best = record { variables = is 2 ∷ []; constraints = Constraint.Linear Rel.AtMost ((negsuc 0, 0) ∷ []) (pos 2) ∷ []; agents = []; waiting = [] }

unfoldable seek : SearchLevel → Trees → Search State
unfolding solve plain_level plain_labelled_in bettered_in chosen all_tried with_new_variables with_constraints places_of_all operand_of operands_of operands_of_array operands_of_list comparison_named connective_named boolean_of goal_of with_term with_terms scaled_terms have_128_bits read_operand read_items read_relation are_narrow are_values first_refusal each_below some_below leaves sum_places least_of_all least_of_others negated ahead_of with_value domain_of_values is_kept integers_left variables_left run_of roots_of leads_for first_answered
seek l ts = solve l ts

-- The first round finds 1 by an alternative, the second 2 by what it posts, the third nothing: the answer has no path. An alternative at the lowest level is too deep here too.
searches :
    ((seek one_above (most (var 0))).ways ≡ note Tick (note (Load 2) (note (Load 3) (ans (way [] best) (end Done)))))
    × ((seek (bottom calls) (most (var 0))).follows [] ≡ cut_off Deep)
    × ((seek one_above (most (atom (codes "a")))).ways ≡ end (Raise (comp (codes "not_a_constraint") (trees_of (atom (codes "a") ∷ [])))))
unfolding seek
searches = (refl, refl, refl)
