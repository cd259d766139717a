-- Goals of constraints and functions of domains in small queries, worked through the definitions: each goal is settled by itself, and its load is told before what it leaves.
use Rattle.std.specs.Prelude.{◌≡◌, ℕ, pos, negsuc, List, [], ◌∷◌, Some, None, codes, refl}
use Rattle.pi_terms.specs.Tree.{var, int, atom, comp, trees_of, tree_count, cells}
use Rattle.pi_terms.specs.Substitution.{instance}
use Rattle.pi_constraints.specs.declared.constraint.Rel.{Rel}
use Rattle.pi_constraints.specs.declared.constraint.Constraint.{Constraint}
use Rattle.pi_constraints.specs.Domain.{has_value, numbers_from, values_of, overlap, shared, common}
use Rattle.pi_constraints.specs.Value.{value, rounds}
use Rattle.pi_constraints.specs.State.{State, Variable, within, bound, empty_state, followed_for, followed}
use Rattle.pi_constraints.specs.Evaluation.{evaluated, evaluated_all, with_new_variables}
use Rattle.pi_core.specs.GoalTree.{GoalTree, call, apply, seq, goals_of}
use Rattle.pi_core.specs.CoreTree.{QueryTree, find_pred}
use Rattle.pi_effects.specs.Items.{each_tree, list_onto, items_for, list_items}
use Rattle.pi_effects.specs.Rows.{done_by, has_line}
use Rattle.pi_effects.specs.Integers.{integer_functions}
use Rattle.pi_effects.specs.Comparing.{comparing_tests}
use Rattle.pi_effects.specs.Kinds.{kind_tests}
use Rattle.pi_effects.specs.Collections.{collection_functions}
use Rattle.pi_effects.specs.Sorting.{sorting_functions}
use Rattle.pi_effects.specs.Indexing.{index_functions}
use Rattle.pi_effects.specs.Ranges.{range_functions}
use Rattle.pi_effects.specs.Naming.{naming_functions}
use Rattle.pi_effects.specs.Texts.{text_functions, writing_predicates}
use Rattle.pi_effects.specs.Making.{making_functions}
use Rattle.pi_effects.specs.BuiltIns.{reading_functions, built_in_function, tests, other_predicates, built_in_predicate, is_predicate}
use Rattle.pi_traces.specs.Trace.{Trace, end, note, ans, Done, Load, alt, then}
use Rattle.pi_prop_spec.specs.Decided.{each_below, some_below, leaves}
use Rattle.pi_prop_spec.specs.Ends.{greatest_of}
use Rattle.pi_prop_spec.specs.Limits.{are_narrow, are_values, first_refusal}
use Rattle.pi_prop_spec.specs.Places.{sum_places}
use Rattle.pi_prop_spec.specs.PostingSums.{with_term, with_terms, scaled_terms}
use Rattle.pi_prop_spec.specs.Relations.{read_relation}
use Rattle.pi_prop_spec.specs.Rules.{count_within}
use Rattle.pi_prop_spec.specs.Steps.{have_128_bits, read_operand, read_items}
use Rattle.pi_prop_spec.specs.Sums.{least_of_all, least_of_others, negated}
use Rattle.pi_prop_spec.specs.Terms.{operand_of, operands_of, operands_of_array, operands_of_list, comparison_named, connective_named, boolean_of, goal_of}
use Rattle.pi_settling.specs.Answers.{leads_for, first_answered, activations, activations_from}
use Rattle.pi_settling.specs.Asked.{flat_for, flat_all}
use Rattle.pi_settling.specs.Confined.{confined}
use Rattle.pi_settling.specs.DomainValues.{domain_functions}
use Rattle.pi_settling.specs.Events.{events_from, variable_events}
use Rattle.pi_settling.specs.Goals.{constraint_goals}
use Rattle.pi_settling.specs.Load.{count_due, same_domain, roots_of}
use Rattle.pi_settling.specs.Choices.{smallest}
use Rattle.pi_settling.specs.Label.{all_tried}
use Rattle.pi_settling.specs.Options.{words_read}
use Rattle.pi_settling.specs.SolveCalls.{solve_calls}
use Rattle.pi_settling.specs.Posted.{with_constraints, places_of_all}
use Rattle.pi_settling.specs.RightSide.{integers_of, right_side}
use Rattle.pi_settling.specs.Settle.{is_kept, integers_left, variables_left, run_of, runs_of, passes, stable_state, settlement as settlement_of_goal}
use Rattle.pi_settling.specs.Settled.{loaded}
use Rattle.pi_settling.specs.Values.{ahead_of, with_value, domain_of_values, gaps_from, numbers_by}
use Rattle.pi_settling.specs.Within.{each_item}
use Rattle.pi_meaning.specs.Shared.Drain.{drained}
use Rattle.pi_meaning.specs.Shared.View.{query_view}
use Rattle.pi_meaning.specs.Shared.Names.{later_predicates, is_later_predicate, is_later_function}
use Rattle.pi_meaning.specs.Shared.Calls.{predicate_given, predicate_called, function_given, called_at_level, first_called}
use Rattle.pi_meaning.specs.Shared.Solve.{labelled_in}
use Rattle.pi_meaning.specs.Shared.Settle.{settled, settlement, is_unchanged, are_unchanged}
use Rattle.pi_meaning.specs.CoreMeaning.Instances.{built_later, whole}
use Rattle.pi_meaning.specs.CoreMeaning.Meaning.{draining, strictly, calling, applying, meaning, meaning_of_all}
use Rattle.pi_meaning.specs.CoreMeaning.Rules.{calls_of, quiet_level, level_at}
use Rattle.pi_meaning.specs.CoreMeaning.Run.{Solution, told, query_trace}

abbrev query : List GoalTree → QueryTree
query goals = record { goal = seq (goals_of goals); helpers = []; names = []; slots = 2 }

unfoldable pub run_at : ℕ → List GoalTree → Trace Solution
unfolding query_trace told draining strictly calling applying calls_of level_at quiet_level find_pred meaning meaning_of_all then alt evaluated evaluated_all with_new_variables drained settled settlement is_unchanged are_unchanged settlement_of_goal stable_state passes runs_of run_of is_kept integers_left variables_left loaded count_due same_domain roots_of events_from variable_events activations activations_from leads_for first_answered each_below some_below leaves greatest_of are_narrow are_values first_refusal sum_places with_term with_terms scaled_terms read_relation count_within have_128_bits read_operand read_items least_of_all least_of_others negated operand_of operands_of operands_of_array operands_of_list comparison_named connective_named boolean_of goal_of flat_for flat_all solve_calls words_read smallest all_tried labelled_in confined with_constraints places_of_all integers_of right_side ahead_of with_value domain_of_values gaps_from numbers_by each_item constraint_goals domain_functions has_value numbers_from values_of overlap shared common value rounds instance cells followed followed_for tree_count each_tree list_onto items_for list_items predicate_given predicate_called function_given called_at_level first_called later_predicates is_later_predicate is_later_function done_by has_line integer_functions comparing_tests kind_tests collection_functions sorting_functions index_functions range_functions naming_functions text_functions writing_predicates making_functions reading_functions built_in_function tests other_predicates built_in_predicate is_predicate
run_at d goals = query_trace (whole (query_view []) built_later []) [] (query goals) d

abbrev run : List GoalTree → Trace Solution
run goals = run_at 1 goals

-- X :: 1..3
abbrev pub one_to_three : GoalTree
one_to_three = call (codes "::") (var 0 ∷ comp (codes "..") (trees_of (int (pos 1) ∷ int (pos 3) ∷ [])) ∷ [])

-- X #> N
abbrev above : ℕ → GoalTree
above n = call (codes "#>") (var 0 ∷ int (pos n) ∷ [])

-- 3 - X =< 0, so that X is 3 at least
abbrev at_least_three : Constraint
at_least_three = Constraint.Linear Rel.AtMost ((negsuc 0, 0) ∷ []) (pos 3)

abbrev pub state : Variable → List Constraint → State
state v cs = record { variables = v ∷ []; constraints = cs; agents = []; waiting = [] }

-- `::` posts nothing and loads nothing. `#>` posts one constraint and takes two values, and X is bound then.
bound-by_posting : run (one_to_three ∷ above 2 ∷ [])
    ≡ note (Load 3) (ans (record { slots = Some (var 0) ∷ None ∷ []; state = state (bound (int (pos 3))) (at_least_three ∷ []) }) (end Done))
unfolding run_at
bound-by_posting = refl

-- where no value is left, all three values and the constraint are the load, and there is no answer
none-left : run (one_to_three ∷ above 3 ∷ []) ≡ note (Load 4) (end Done)
unfolding run_at
none-left = refl

-- a function of a domain leaves the state as it is; a bound variable has one value
values-told : run (one_to_three ∷ apply (codes "fd_max") (var 0 ∷ []) 1 ∷ [])
    ≡ ans (record { slots = Some (var 0) ∷ Some (int (pos 3)) ∷ []; state = state (within (record { lo = pos 1; hi = pos 3 } ∷ [])) [] }) (end Done)
unfolding run_at
values-told = refl

-- `call` finds goals of constraints by their names; what is true of integers posts nothing
called-by_name : run (call (codes "call") (atom (codes "#=") ∷ int (pos 1) ∷ int (pos 1) ∷ []) ∷ []) ≡ ans (record { slots = None ∷ None ∷ []; state = empty_state }) (end Done)
unfolding run_at
called-by_name = refl
