-- Small programs that are worked out: what the examples beside this file compute.
use Rattle.std.specs.Prelude.{ℕ, pos, List, [], map}
use Rattle.pi_terms.specs.Tree.{Tree, int, comp, trees_of, tree_count, cells}
use Rattle.pi_terms.specs.Order.{order}
use Rattle.pi_terms.specs.Variables.{occurrences, firsts}
use Rattle.pi_terms.specs.Substitution.{instance}
use Rattle.pi_terms.specs.Copy.{copy}
use Rattle.pi_terms.specs.ListCopies.{list_of_copies, new_in_all}
use Rattle.pi_constraints.specs.Value.{rounds, value}
use Rattle.pi_constraints.specs.State.{followed_for, followed}
use Rattle.pi_constraints.specs.Unify.{in_pairs, assigned, joined, outcome, unified_for, unbound_in, cells_of_pairs, most_pairs, all_unified}
use Rattle.pi_constraints.specs.Evaluation.{with_new_variables}
use Rattle.pi_effects.specs.Power.{power}
use Rattle.pi_effects.specs.Value.{value_of as operation}
use Rattle.pi_syntax.specs.ExpTree.{ExpTree}
use Rattle.pi_syntax.specs.ProgramTree.{ProgramTree}
use Rattle.pi_syntax.specs.Signature.{exp_count}
use Rattle.pi_syntax.specs.Tokens.{is_reserved}
use Rattle.pi_syntax.specs.PrintAtom.{is_unquoted_atom, stands_bare, atom_text}
use Rattle.pi_syntax.specs.PrintTerm.{is_characters, characters, written}
use Rattle.std.specs.Str.{chars}
use Rattle.std.specs.Char.{encode_utf8}
use Rattle.std.specs.Fmt.{digits}
use Rattle.pi_effects.specs.Exception.{thrown, exception_with, type_error}
use Rattle.pi_effects.specs.Items.{each_tree, list_onto, items_for, list_items}
use Rattle.pi_effects.specs.Rows.{done_by, has_line}
use Rattle.pi_effects.specs.Integers.{integer_functions}
use Rattle.pi_effects.specs.Comparing.{comparing_tests}
use Rattle.pi_effects.specs.Kinds.{kind_tests}
use Rattle.pi_effects.specs.Collections.{total, collection_functions}
use Rattle.pi_effects.specs.Sorting.{inserted, sorted, each_once, sorting_functions}
use Rattle.pi_effects.specs.Indexing.{indexed, index_functions}
use Rattle.pi_effects.specs.Ranges.{values_by, range_functions}
use Rattle.pi_effects.specs.Naming.{naming_functions}
use Rattle.pi_effects.specs.Format.{pieces, filled_in, formatted}
use Rattle.pi_effects.specs.Texts.{text_functions, writing_predicates}
use Rattle.pi_effects.specs.Making.{new_rows, making_functions}
use Rattle.pi_effects.specs.BuiltIns.{reading_functions, built_in_function, tests, other_predicates, built_in_predicate, is_predicate}
use Rattle.pi_traces.specs.Trace.{end, Raise, then, alt, first, Emitted, noted, answered, Note}
use Rattle.pi_traces.specs.Control.{negated, chosen, collected, counted, caught}
use Rattle.pi_traces.specs.Depth.{Cut, cut, Stop}
use Rattle.pi_meaning.specs.Shared.Drain.{drained}
use Rattle.pi_meaning.specs.Shared.Raise.{raised_with}
use Rattle.pi_meaning.specs.OverNames.Environment.{meant}
use Rattle.pi_meaning.specs.CoreMeaning.Facts.{fits_modes}
use Rattle.pi_meaning.specs.OverNames.Telling.{told_behind, told_values, if_tellable, Told, told_trace, place_told}
use Rattle.pi_core.specs.declared.answer.NamedTerm.{NamedTerm}
use Rattle.pi_meaning.specs.Shared.View.{View, query_view}
use Rattle.pi_meaning.specs.OverNames.Texts.{places, places_all, places_caught, places_of_branches, occurring, occurring_all, occurring_in_branches, behind, patterns_of, assigned as assigned_names, assigned_all, assigned_in_branches}
use Rattle.pi_meaning.specs.OverNames.Stages.{LaterStages, built_stages}
use Rattle.pi_meaning.specs.OverNames.Assigning.{with_value, with_names}
use Rattle.pi_meaning.specs.OverNames.Terms.{items_onto, written_term, written_terms}
use Rattle.pi_meaning.specs.OverNames.Heads.{characters_matched, pattern_matched, patterns_matched, items_matched}
use Rattle.pi_meaning.specs.Shared.Names.{later_predicates, is_later_predicate, is_later_function}
use Rattle.pi_meaning.specs.Shared.Calls.{predicate_given, predicate_called, function_given, function_called, called_at_level, first_called}
use Rattle.pi_meaning.specs.OverNames.Control.{draining, strictly, applied_to, all_found, all_counted, called_with, calling_term, choosing, denying, taken_once, catching, goal_at, value_at}
use Rattle.pi_meaning.specs.OverNames.Loops.{closed, elements, iterating, turning, while_turns, do_turns, comprehended}
use Rattle.pi_meaning.specs.OverNames.Forms.{form_of, atom_goal, readings, operand_readings, call_value, range_value, indexed_by}
use Rattle.pi_meaning.specs.OverNames.Goals.{value_of, values_of, values_in, values_apart, goals_in, goal_of, all_of, any_of, arrow_in, branches_of, units_of, collection_of}
use Rattle.pi_meaning.specs.OverNames.Rules.{modes_named, rules_called, facts_called, functions_called, calls_by, level_for}
use Rattle.pi_meaning.specs.OverNames.Prelude.{prelude}
use Rattle.pi_meaning.specs.OverNames.Run.{names_from, names_trace, answer_names}
use Rattle.pi_meaning.specs.Shared.Settle.{settled, settlement, is_unchanged, are_unchanged}
use Rattle.pi_settling.specs.Settle.{settlement as settlement_of_goal, stable_state, passes, runs_of}
use Rattle.pi_settling.specs.Settled.{loaded}
use Rattle.pi_settling.specs.Goals.{constraint_goals}
use Rattle.pi_settling.specs.Load.{count_due, same_domain}
use Rattle.pi_settling.specs.Events.{events_from, variable_events}
use Rattle.pi_settling.specs.Answers.{activations, activations_from}

-- a later stage that raises each of its goals, so that its arguments are seen
abbrev pub raising_later : LaterStages
raising_later = record {
  calls = record { predicate = λ v l name ts s. end (Raise (comp name ts)); function = λ name ts s. end (Raise (comp name ts)) };
  agent = λ call i es p. end (Raise call);
}

-- what is seen of a run: notes, and of answers their values
pub data Seen : Type 0 where
  seen : Note → Seen
  told : List NamedTerm → Seen

abbrev pub seen_of : Emitted Told → Seen
seen_of (noted n) = seen n
seen_of (answered x) = told x.values

pub record Outcome : Type 0 where
  pub events : List Seen
  pub stop : Stop

-- the run of a goal, cut before Tick number n + 1, taken at a depth
unfoldable pub run_with : LaterStages → View → ProgramTree → ExpTree → ℕ → ℕ → Outcome
unfolding places_caught names_trace names_from told_behind told_values if_tellable then alt first negated chosen collected counted caught cut settled settlement is_unchanged are_unchanged settlement_of_goal stable_state passes runs_of loaded count_due same_domain events_from variable_events activations activations_from drained raised_with meant fits_modes places places_all places_of_branches occurring occurring_all occurring_in_branches behind patterns_of assigned_names assigned_all assigned_in_branches with_value with_names items_onto written_term written_terms characters_matched pattern_matched patterns_matched items_matched later_predicates is_later_predicate is_later_function constraint_goals predicate_given predicate_called function_given function_called called_at_level first_called draining strictly applied_to all_found all_counted called_with calling_term choosing denying taken_once catching goal_at value_at closed elements iterating turning while_turns do_turns comprehended form_of atom_goal readings operand_readings call_value range_value indexed_by value_of values_of values_in values_apart goals_in goal_of all_of any_of arrow_in branches_of units_of collection_of modes_named rules_called facts_called functions_called calls_by level_for prelude exp_count list_of_copies new_in_all built_in_function built_in_predicate is_predicate has_line tests comparing_tests kind_tests writing_predicates other_predicates pieces filled_in formatted reading_functions done_by integer_functions collection_functions sorting_functions index_functions range_functions naming_functions text_functions making_functions total inserted sorted each_once indexed values_by new_rows each_tree list_onto items_for list_items thrown exception_with type_error tree_count cells order occurrences firsts instance copy rounds value followed_for followed in_pairs assigned joined outcome unified_for unbound_in cells_of_pairs most_pairs all_unified with_new_variables power operation is_reserved is_unquoted_atom stands_bare atom_text is_characters characters written chars encode_utf8 digits
run_with later v program goal n depth =
    let c : Cut Told = cut n (told_trace (place_told (answer_names goal)) (names_trace v later program goal depth)) in
    record { events = map seen_of c.events; stop = c.stop }

unfoldable pub run_in : View → ProgramTree → ExpTree → ℕ → ℕ → Outcome
unfolding run_with
run_in v program goal n depth = run_with built_stages v program goal n depth

-- a query
unfoldable pub run_of : ProgramTree → ExpTree → ℕ → ℕ → Outcome
unfolding run_in
run_of program goal n depth = run_in (query_view []) program goal n depth

abbrev pub n : ℕ → Tree
n k = int (pos k)

abbrev pub compound : List ℕ → List Tree → Tree
compound name ts = comp name (trees_of ts)

-- what a name is told to be
abbrev pub is : List ℕ → Tree → NamedTerm
is name t = record { name = name; value = t }
