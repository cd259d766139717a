-- Goals with loops, worked out: at each of these depths the query that a goal is lowered to does what the goal does over its names.
use Rattle.std.proofs.Common.{◌≡◌, ℕ, ◌+◌, true, List, [], ◌∷◌, ◌++◌, refl, sym, ◌∙◌}
use Rattle.std.specs.Prelude.{pos, false, codes, negsuc}
use Rattle.pi_terms.specs.Tree.{Tree, var, int, tree_count, cells}
use Rattle.pi_terms.specs.Order.{order}
use Rattle.pi_terms.specs.Variables.{occurrences, firsts}
use Rattle.pi_terms.specs.Substitution.{instance}
use Rattle.pi_terms.specs.Copy.{copy}
use Rattle.pi_terms.specs.ListCopies.{list_of_copies, new_in_all}
use Rattle.pi_constraints.specs.Value.{rounds, value}
use Rattle.pi_constraints.specs.State.{State, bound, empty_state, followed_for, followed}
use Rattle.pi_constraints.specs.Unify.{in_pairs, assigned, joined, outcome, unified_for, unbound_in, cells_of_pairs, most_pairs, all_unified}
use Rattle.pi_constraints.specs.Evaluation.{evaluated, evaluated_all, with_new_variables}
use Rattle.pi_constraints.specs.HeadMatch.{matched_in, matched_all_in}
use Rattle.std.specs.Str.{chars}
use Rattle.std.specs.Char.{encode_utf8}
use Rattle.std.specs.Fmt.{digits}
use Rattle.pi_effects.specs.Power.{power}
use Rattle.pi_effects.specs.Value.{value_of as operation}
use Rattle.pi_syntax.specs.ExpTree.{ExpTree, list, array, quote, range, range_by, collect, foreach, while_do, do_while, atom as name, int as number}
use Rattle.pi_syntax.specs.Signature.{exp_count}
use Rattle.pi_syntax.specs.Tokens.{is_reserved}
use Rattle.pi_syntax.specs.PrintAtom.{is_unquoted_atom, stands_bare, atom_text}
use Rattle.pi_syntax.specs.PrintTerm.{is_characters, characters, written}
use Rattle.pi_core.specs.CoreTree.{PredTree, QueryTree, find_pred}
use Rattle.pi_effects.specs.Exception.{thrown, exception_with, type_error}
use Rattle.pi_effects.specs.Items.{each_tree, list_onto, list_of, items_for, list_items}
use Rattle.pi_effects.specs.Rows.{done_by, has_line}
use Rattle.pi_effects.specs.Integers.{integer_functions}
use Rattle.pi_effects.specs.Comparing.{comparing_tests}
use Rattle.pi_effects.specs.Kinds.{kind_tests}
use Rattle.pi_effects.specs.Collections.{total, collection_functions}
use Rattle.pi_effects.specs.Sorting.{sorting_functions}
use Rattle.pi_effects.specs.Indexing.{indexed, index_functions}
use Rattle.pi_effects.specs.Ranges.{values_by, range_functions}
use Rattle.pi_effects.specs.Naming.{naming_functions}
use Rattle.pi_effects.specs.Texts.{text_functions, writing_predicates}
use Rattle.pi_effects.specs.Making.{making_functions}
use Rattle.pi_effects.specs.BuiltIns.{reading_functions, built_in_function, tests, other_predicates, built_in_predicate, is_predicate}
use Rattle.pi_traces.specs.Trace.{Trace, note, Tick, one, then, alt, first}
use Rattle.pi_traces.specs.Control.{negated, chosen, collected, counted, caught}
use Rattle.pi_settling.specs.Settle.{settlement as settlement_of_goal, stable_state, passes, runs_of}
use Rattle.pi_settling.specs.Settled.{loaded}
use Rattle.pi_settling.specs.Load.{count_due, same_domain}
use Rattle.pi_settling.specs.Events.{events_from, variable_events}
use Rattle.pi_settling.specs.Answers.{activations, activations_from}
use Rattle.pi_meaning.specs.Shared.Settle.{settled, settlement, is_unchanged, are_unchanged}
use Rattle.pi_meaning.specs.Shared.Drain.{drained}
use Rattle.pi_meaning.specs.Shared.Raise.{raised_with}
use Rattle.pi_meaning.specs.OverNames.Environment.{meant}
use Rattle.pi_meaning.specs.Shared.View.{query_view}
use Rattle.pi_meaning.specs.OverNames.Telling.{told_behind, told_values, if_tellable, Told, told_trace, place_told}
use Rattle.pi_meaning.specs.Shared.Told.{named_values, solution_told}
use Rattle.pi_meaning.specs.Shared.Names.{later_predicates, is_later_predicate, is_later_function}
use Rattle.pi_meaning.specs.Shared.Calls.{predicate_given, predicate_called, function_given, function_called, called_at_level, first_called}
use Rattle.pi_meaning.specs.CoreMeaning.Instances.{whole}
use Rattle.pi_meaning.specs.CoreMeaning.Meaning.{draining, strictly, calling, applying, collecting, counting, catching, meaning, meaning_of_all}
use Rattle.pi_meaning.specs.CoreMeaning.Rules.{pred_run, function_run, calls_of, rules, quiet_level, level_at}
use Rattle.pi_meaning.specs.CoreMeaning.Run.{told}
use Rattle.pi_meaning.specs.OverNames.Texts.{places, places_all, places_caught, places_of_branches, occurring, occurring_all, occurring_in_branches, behind, patterns_of, assigned as assigned_names, assigned_all, assigned_in_branches}
use Rattle.pi_meaning.specs.OverNames.Stages.{built_stages}
use Rattle.pi_meaning.specs.OverNames.Assigning.{with_value, with_names}
use Rattle.pi_meaning.specs.OverNames.Terms.{items_onto, written_term, written_terms}
use Rattle.pi_meaning.specs.OverNames.Heads.{pattern_matched, patterns_matched, items_matched}
use Rattle.pi_meaning.specs.OverNames.Control.{draining as names_draining, strictly as names_strictly, applied_to, all_found, all_counted, called_with, calling_term, choosing, denying, taken_once, catching as names_catching, goal_at, value_at}
use Rattle.pi_meaning.specs.OverNames.Loops.{closed, elements, iterating, turning, while_turns, do_turns, comprehended}
use Rattle.pi_meaning.specs.OverNames.Forms.{form_of, atom_goal, readings, operand_readings, call_value, range_value, indexed_by}
use Rattle.pi_meaning.specs.OverNames.Goals.{value_of, values_of, values_in, values_apart, goals_in, goal_of, all_of, any_of, arrow_in, branches_of, units_of, collection_of}
use Rattle.pi_meaning.specs.OverNames.Rules.{modes_named, rules_called, facts_called, functions_called, calls_by, level_for}
use Rattle.pi_meaning.specs.OverNames.Prelude.{prelude, calls, exps, v, equal, all}
use Rattle.pi_meaning.specs.OverNames.Run.{names_from, names_trace, answer_names}
use Rattle.pi_rewrite_spec.specs.Slots.{slot_of, named_slots, slots_behind}
use Rattle.pi_rewrite_spec.specs.Values.{is_flat_as, slot_term, is_below, slot_pattern}
use Rattle.pi_rewrite_spec.specs.Goals.{goals_at as slot_goals_at, value_at as slot_value_at, indexed_by as slots_indexed_by}
use Rattle.pi_rewrite_spec.specs.Loops.{slots_from, slots_head, with_values, closing, closing_slots, as_written, kept_goals}
use Rattle.pi_rewrite_spec.specs.Sites.{helpers_in, following_sites}
use Rattle.pi_rewrite_spec.specs.Written.{made_as}
use Rattle.pi_rewrite_spec.specs.Helpers.{helpers_at, value_helpers}
use Rattle.pi_rewrite_spec.specs.Clauses.{grouped}
use Rattle.pi_rewrite_spec.specs.Programs.{Naming, clauses_of, helpers_of, core_program, core_query}
use Rattle.pi_rewrite_laws.specs.Laws.{query_from}

-- ---- both meanings

-- the helpers of loops are `~0`, `~1` ..
abbrev own : Naming
own n = 126 ∷ (48 + n) ∷ []

-- a goal that is asked of a program with no clauses
unfoldable over_slots : ExpTree → ℕ → Trace Told
unfolding query_from told named_values draining strictly calling applying collecting counting catching pred_run function_run calls_of level_at quiet_level rules find_pred meaning meaning_of_all list_of_copies new_in_all with_new_variables then alt first negated chosen collected counted caught evaluated evaluated_all matched_in matched_all_in drained settled settlement is_unchanged are_unchanged settlement_of_goal stable_state passes runs_of loaded count_due same_domain events_from variable_events activations activations_from thrown exception_with type_error raised_with copy occurrences firsts all_unified unified_for outcome assigned joined in_pairs most_pairs unbound_in cells_of_pairs cells value rounds instance followed followed_for order tree_count each_tree list_onto items_for list_items indexed values_by total operation power predicate_given predicate_called function_given function_called called_at_level first_called later_predicates is_later_predicate is_later_function done_by has_line integer_functions comparing_tests kind_tests collection_functions sorting_functions index_functions range_functions naming_functions text_functions writing_predicates making_functions reading_functions built_in_function tests other_predicates built_in_predicate is_predicate is_reserved is_unquoted_atom stands_bare atom_text is_characters characters written chars encode_utf8 digits slot_of named_slots slots_behind slot_term is_flat_as is_below slot_pattern made_as slot_goals_at slot_value_at slots_indexed_by items_onto form_of exp_count slots_from slots_head with_values closing closing_slots as_written kept_goals told_behind places behind core_query core_program clauses_of helpers_of grouped helpers_in following_sites helpers_at value_helpers places_all places_caught places_of_branches occurring occurring_all occurring_in_branches patterns_of assigned_names assigned_all assigned_in_branches prelude
over_slots goal d =
    let preds : List PredTree = core_program own [] in
    let q : QueryTree = core_query own goal in
    told_trace (solution_told q.names) (query_from (whole (query_view []) built_stages.calls (preds ++ q.helpers)) preds q d empty_state)

unfoldable over_names : ExpTree → ℕ → Trace Told
unfolding names_trace names_from told_behind told_values if_tellable then alt first negated chosen collected counted caught settled settlement is_unchanged are_unchanged settlement_of_goal stable_state passes runs_of loaded count_due same_domain events_from variable_events activations activations_from drained raised_with meant places places_caught places_all places_of_branches occurring occurring_all occurring_in_branches behind patterns_of assigned_names assigned_all assigned_in_branches with_value with_names items_onto written_term written_terms pattern_matched patterns_matched items_matched later_predicates is_later_predicate is_later_function predicate_given predicate_called function_given function_called called_at_level first_called names_draining names_strictly applied_to all_found all_counted called_with calling_term choosing denying taken_once names_catching goal_at value_at closed elements iterating turning while_turns do_turns comprehended form_of atom_goal readings operand_readings call_value range_value indexed_by value_of values_of values_in values_apart goals_in goal_of all_of any_of arrow_in branches_of units_of collection_of modes_named rules_called facts_called functions_called calls_by level_for prelude exp_count list_of_copies new_in_all built_in_function built_in_predicate is_predicate has_line tests comparing_tests kind_tests writing_predicates other_predicates reading_functions done_by integer_functions collection_functions sorting_functions index_functions range_functions naming_functions text_functions making_functions total indexed values_by each_tree list_onto items_for list_items thrown exception_with type_error tree_count cells order occurrences firsts instance copy rounds value followed_for followed in_pairs assigned joined outcome unified_for unbound_in cells_of_pairs most_pairs all_unified with_new_variables power operation is_reserved is_unquoted_atom stands_bare atom_text is_characters characters written chars encode_utf8 digits
over_names goal d = told_trace (place_told (answer_names goal)) (names_trace (query_view []) built_stages [] goal d)

-- at one depth; and at several, one of which no turn reaches
abbrev Same : ExpTree → ℕ → Type 0
Same goal d = over_slots goal d ≡ over_names goal d

abbrev SameAtAll : ExpTree → Type 0
SameAtAll goal = Same goal 0 × Same goal 1 × Same goal 2 × Same goal 5

-- ---- texts

abbrev i : ℕ → ExpTree
i k = number (pos k)

abbrev X : ExpTree
X = v (codes "X")

abbrev Y : ExpTree
Y = v (codes "Y")

abbrev I : ExpTree
I = v (codes "I")

abbrev J : ExpTree
J = v (codes "J")

abbrev to : ExpTree → ExpTree → ExpTree
to x e = calls (codes ":=") (x ∷ e ∷ [])

abbrev plus : ExpTree → ExpTree → ExpTree
plus a b = calls (codes "+") (a ∷ b ∷ [])

abbrev less : ExpTree → ExpTree → ExpTree
less a b = calls (codes "<") (a ∷ b ∷ [])

abbrev print : ExpTree → ExpTree
print e = calls (codes "print") (e ∷ [])

abbrev goes_over : ExpTree → ExpTree → ExpTree
goes_over e d = calls (codes "in") (e ∷ d ∷ [])

abbrev items : List ExpTree → ExpTree
items es = list (exps es)

-- ---- `while` and `do`

-- I = 0, while (I < 3) print(I), I := I+1 end
while-turns : SameAtAll (all (equal I (i 0) ∷ while_do (less I (i 3)) (all (print I ∷ to I (plus I (i 1)) ∷ [])) ∷ []))
unfolding over_slots over_names
while-turns = (refl, refl, refl, refl)

-- I = 0, do X = I, I := I+1 while (I < 2), X = Y: X is local to the turns
do-turns : SameAtAll (all (equal I (i 0) ∷ do_while (all (equal X I ∷ to I (plus I (i 1)) ∷ [])) (less I (i 2)) ∷ equal X Y ∷ []))
unfolding over_slots over_names
do-turns = (refl, refl, refl, refl)

-- I = 0, X = [], while (I < 2) J = 0, while (J < I) X := [Y|X], J := J+1 end, I := I+1 end: a loop in a loop, each with variables of its own for what it keeps, and Y of each turn
abbrev inner_step : ExpTree
inner_step = all (to X (Rattle.pi_syntax.specs.ExpTree.list_onto (exps (Y ∷ [])) X) ∷ to J (plus J (i 1)) ∷ [])

abbrev outer_step : ExpTree
outer_step = all (equal J (i 0) ∷ while_do (less J I) inner_step ∷ to I (plus I (i 1)) ∷ [])

loops-nest : SameAtAll (all (equal I (i 0) ∷ equal X (items []) ∷ while_do (less I (i 2)) outer_step ∷ []))
unfolding over_slots over_names
loops-nest = (refl, refl, refl, refl)

-- (I = 0 ; I = 0, X = I), do I := I+1 while (I < 2), Y = I: on the first path X is made when the loop starts, before what the loop keeps
abbrev two_ways : ExpTree
two_ways = Rattle.pi_syntax.specs.ExpTree.or (exps (equal I (i 0) ∷ all (equal I (i 0) ∷ equal X I ∷ []) ∷ []))

names-are_there : SameAtAll (all (two_ways ∷ do_while (to I (plus I (i 1))) (less I (i 2)) ∷ equal Y I ∷ []))
unfolding over_slots over_names
names-are_there = (refl, refl, refl, refl)

-- ---- iterators

abbrev f : List ExpTree → ExpTree
f es = calls (codes "f") es

-- X = [Y,$f(J),$f(b)], foreach(f(I) in X) Y = I, print(I) end: Y is bound in a turn, the first element is passed over, and I of the pattern is new in each turn
abbrev elements_of : ExpTree
elements_of = items (Y ∷ quote (f (J ∷ [])) ∷ quote (f (name (codes "b") ∷ [])) ∷ [])

lists-are_walked : SameAtAll (all (equal X elements_of ∷ foreach (exps (goes_over (f (I ∷ [])) X ∷ [])) (all (equal Y I ∷ print I ∷ [])) ∷ []))
unfolding over_slots over_names
lists-are_walked = (refl, refl, refl, refl)

-- I = 5, J = J, foreach(I in {J,J}) I = 1, print(J) end: an array, and a pattern that has the spelling of a name before it
arrays-are_walked : SameAtAll (all (equal I (i 5) ∷ equal J J ∷ foreach (exps (goes_over I (array (exps (J ∷ J ∷ []))) ∷ [])) (all (equal I (i 1) ∷ print J ∷ [])) ∷ []))
unfolding over_slots over_names
arrays-are_walked = (refl, refl, refl, refl)

-- foreach(I in X) true end: what isn't a list raises, and takes no Tick
no-collection : SameAtAll (foreach (exps (goes_over I X ∷ [])) (name (codes "true")))
unfolding over_slots over_names
no-collection = (refl, refl, refl, refl)

-- I = 0, foreach(J in [1,2]) I := I+J end: what is kept
sums-are_kept : SameAtAll (all (equal I (i 0) ∷ foreach (exps (goes_over J (items (i 1 ∷ i 2 ∷ [])) ∷ [])) (to I (plus I J)) ∷ []))
unfolding over_slots over_names
sums-are_kept = (refl, refl, refl, refl)

-- foreach(I in [X]) I = 1 end, Y = X: what the iterator goes over has names of its own
collections-have_names : SameAtAll (all (foreach (exps (goes_over I (items (X ∷ [])) ∷ [])) (equal I (i 1)) ∷ equal Y X ∷ []))
unfolding over_slots over_names
collections-have_names = (refl, refl, refl, refl)

-- foreach(I in 1..2) print(I) end, and I = 3, foreach(J in I.. -1..2) I := I+J, J := 0 end: values of a range, what is kept, and a pattern's name that is assigned
ranges-are_walked : SameAtAll (foreach (exps (goes_over I (range (i 1) (i 2)) ∷ [])) (print I))
unfolding over_slots over_names
ranges-are_walked = (refl, refl, refl, refl)

abbrev down_step : ExpTree
down_step = all (to I (plus I J) ∷ to J (i 0) ∷ [])

ranges-go_down : SameAtAll (all (equal I (i 3) ∷ foreach (exps (goes_over J (range_by I (number (negsuc 0)) (i 2)) ∷ [])) down_step ∷ []))
unfolding over_slots over_names
ranges-go_down = (refl, refl, refl, refl)

-- foreach(2 in 1..2) print(x) end, and a range without values: a value that isn't matched is passed over behind its Tick
values-are_passed_over : SameAtAll (foreach (exps (goes_over (i 2) (range (i 1) (i 2)) ∷ [])) (print (name (codes "x"))))
    × SameAtAll (foreach (exps (goes_over I (range (i 3) (i 1)) ∷ [])) (print I))
unfolding over_slots over_names
values-are_passed_over = ((refl, refl, refl, refl), (refl, refl, refl, refl))

-- foreach(I in X..Y) true end, and foreach(I in 1..0..2) true end: the first wrong one is told, and the step behind the numbers
bounds-are_told : SameAtAll (foreach (exps (goes_over I (range X Y) ∷ [])) (name (codes "true")))
    × SameAtAll (foreach (exps (goes_over I (range_by (i 1) (i 0) (i 2)) ∷ [])) (name (codes "true")))
unfolding over_slots over_names
bounds-are_told = ((refl, refl, refl, refl), (refl, refl, refl, refl))

-- foreach(I = 1, J in [I,2]) print(J) end: a loop that begins with a test
tests-come_first : SameAtAll (foreach (exps (equal I (i 1) ∷ goes_over J (items (I ∷ i 2 ∷ [])) ∷ [])) (print J))
unfolding over_slots over_names
tests-come_first = (refl, refl, refl, refl)

-- ---- comprehensions

-- X = [I+1 : I in [1,2]]
comprehensions-gather : SameAtAll (equal X (collect false (plus I (i 1)) (exps (goes_over I (items (i 1 ∷ i 2 ∷ [])) ∷ []))))
unfolding over_slots over_names
comprehensions-gather = (refl, refl, refl, refl)

-- X = {I : I in {1,2,J}, I !== 2}: as an array, over an array, with a test
abbrev three : ExpTree
three = array (exps (i 1 ∷ i 2 ∷ J ∷ []))

abbrev no_two : ExpTree
no_two = calls (codes "!==") (I ∷ i 2 ∷ [])

arrays-gather : SameAtAll (equal X (collect true I (exps (goes_over I three ∷ no_two ∷ []))))
unfolding over_slots over_names
arrays-gather = (refl, refl, refl, refl)

-- X = [[J : J in [I]] : I in [1]]: the items of the inner one stand in a slot of their own
abbrev nested : ExpTree
nested = equal X (collect false (collect false J (exps (goes_over J (items (I ∷ [])) ∷ []))) (exps (goes_over I (items (i 1 ∷ [])) ∷ [])))

-- what both do at a depth that its turns reach: two Ticks, and an answer with what X and the two loops gathered
abbrev one_by_one : Tree
one_by_one = list_of (int (pos 1) ∷ [])

abbrev nested_state : State
nested_state = record { variables = bound (list_of (var 2 ∷ [])) ∷ bound (list_of (var 2 ∷ [])) ∷ bound one_by_one ∷ []; constraints = []; agents = []; waiting = [] }

abbrev nested_answer : Told
nested_answer = record { values = record { name = codes "X"; value = list_of (one_by_one ∷ []) } ∷ []; state = nested_state }

abbrev nested_trace : Trace Told
nested_trace = note Tick (note Tick (one nested_answer))

nested-over_slots : over_slots nested 2 ≡ nested_trace
unfolding over_slots list_onto
nested-over_slots = refl

nested-over_names : over_names nested 2 ≡ nested_trace
unfolding over_names list_onto
nested-over_names = refl

nested-cut_off : Same nested 1
unfolding over_slots over_names
nested-cut_off = refl

comprehensions-nest : Same nested 1 × Same nested 2
comprehensions-nest = (nested-cut_off, nested-over_slots ∙ sym nested-over_names)
