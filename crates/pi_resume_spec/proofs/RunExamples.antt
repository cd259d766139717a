-- Runs that tell paths and resumed runs, cut before a Tick and with paths that are too long, worked out.
use Rattle.std.specs.Prelude.{◌≡◌, ℕ, false, pos, List, [], ◌∷◌, codes, refl}
use Rattle.pi_terms.specs.Tree.{Tree, var, atom}
use Rattle.pi_core.specs.GoalTree.{GoalTree, truth, call, seq}
use Rattle.pi_core.specs.CoreTree.{PredTree}
use Rattle.pi_traces.specs.Trace.{Call, end, note, End, Done, Raise, Miss, Note, Tick, Load, Emitted, noted, answered, done}
use Rattle.pi_traces.specs.Depth.{Ended, Spent, Cut, cut}
use Rattle.pi_meaning.specs.Shared.View.{query_view}
use Rattle.pi_meaning.specs.CoreMeaning.Run.{Solution}
use Rattle.pi_meaning.specs.CoreMeaning.Meaning.{slot_value}
use Rattle.pi_solve_spec.specs.Counted.{loads_of}
use Rattle.pi_resume.specs.Token.{most_numbers}
use Rattle.pi_resume_spec.specs.Ways.{Way}
use Rattle.pi_resume_spec.specs.Longest.{told_paths, told_behind}
use Rattle.pi_resume_spec.specs.ResumedCut.{ResumedStop, stops, bad_path, ResumedCut, resumed_cut}
use Rattle.pi_resume_spec.specs.PathRuns.{path_trace, resumed_trace, IsResumedRun}
use Rattle.pi_resume_spec.specs.Resumed.{simple}
use Rattle.pi_resume_spec.specs.ByName.{LaterSearches, built_searches, all_names}
use Rattle.pi_resume_spec.specs.ResumedWork.{query_behind}
use Rattle.pi_solve_spec.specs.WorkBounds.{run_loads}
use Rattle.pi_resume_spec.proofs.LanguageExamples.{query, goals, n, member, member_goal, p, p_of, a, b, c}
use Rattle.pi_traces.specs.Trace.{then, alt, first}
use Rattle.pi_meaning.specs.CoreMeaning.Run.{told}
use Rattle.pi_meaning.specs.Shared.Calls.{function_given}
use Rattle.pi_meaning.specs.Shared.Names.{later_predicates, is_later_predicate}
use Rattle.pi_terms.specs.Tree.{tree_count, cells}
use Rattle.pi_terms.specs.Order.{order}
use Rattle.pi_terms.specs.Variables.{occurrences, firsts}
use Rattle.pi_terms.specs.Substitution.{instance}
use Rattle.pi_terms.specs.Copy.{copy}
use Rattle.pi_constraints.specs.Value.{rounds, value}
use Rattle.pi_constraints.specs.State.{followed_for, followed}
use Rattle.pi_constraints.specs.Unify.{in_pairs, assigned, joined, outcome, unified_for, unbound_in, cells_of_pairs, most_pairs, all_unified}
use Rattle.pi_traces.specs.Control.{negated, chosen, collected, counted, caught}
use Rattle.pi_settling.specs.Settle.{settlement as settlement_of_goal, stable_state, passes, runs_of}
use Rattle.pi_settling.specs.Settled.{loaded}
use Rattle.pi_settling.specs.Load.{count_due, same_domain}
use Rattle.pi_settling.specs.Events.{events_from, variable_events}
use Rattle.pi_settling.specs.Answers.{activations, activations_from}
use Rattle.pi_meaning.specs.Shared.Settle.{settled, settlement, is_unchanged, are_unchanged}
use Rattle.pi_meaning.specs.Shared.Drain.{drained}
use Rattle.pi_constraints.specs.Evaluation.{evaluated, evaluated_all, with_new_variables}
use Rattle.pi_constraints.specs.HeadMatch.{matched_in, matched_all_in}
use Rattle.pi_effects.specs.Exception.{thrown, exception_with}
use Rattle.pi_effects.specs.Rows.{done_by, has_line}
use Rattle.pi_settling.specs.SolveCalls.{solve_calls}
use Rattle.pi_syntax.specs.PrintTerm.{written}
use Rattle.pi_syntax.specs.PrintAtom.{atom_text}
use Rattle.pi_effects.specs.Items.{each_tree}
use Rattle.pi_effects.specs.Value.{value_of}
use Rattle.pi_effects.specs.Comparing.{comparing_tests}
use Rattle.pi_effects.specs.Kinds.{kind_tests}
use Rattle.pi_effects.specs.Texts.{text_functions, writing_predicates}
use Rattle.pi_effects.specs.Integers.{integer_functions}
use Rattle.pi_effects.specs.Collections.{collection_functions}
use Rattle.pi_effects.specs.Sorting.{sorting_functions}
use Rattle.pi_effects.specs.Indexing.{index_functions}
use Rattle.pi_effects.specs.Ranges.{range_functions}
use Rattle.pi_effects.specs.Naming.{naming_functions}
use Rattle.pi_effects.specs.Making.{making_functions}
use Rattle.pi_effects.specs.BuiltIns.{is_predicate, built_in_predicate, built_in_function, tests, other_predicates, reading_functions}
use Rattle.pi_meaning.specs.Shared.Raise.{raised_with}
use Rattle.pi_core.specs.CoreTree.{find_pred}
use Rattle.pi_terms.specs.ListCopies.{list_of_copies, new_in_all}
use Rattle.pi_resume_spec.specs.Ways.{choice_from}
use Rattle.pi_resume_spec.specs.Resumed.{rules_ways, rules_taken, with_rest, follows_then, taken_from, to_answer, on_first, to_exception, with_handler, resumed}
use Rattle.pi_resume_spec.specs.Searches.{draining, strictly}
use Rattle.pi_resume_spec.specs.ByName.{predicate_given, predicate_called, called_at_level, first_called}
use Rattle.pi_resume_spec.specs.Goals.{search, calling, applying, collecting, counting, catching}
use Rattle.pi_resume_spec.specs.Rules.{pred_search, rule_searches, quiet_search, searches_of, quiet_level, search_level}
use Rattle.pi_resume_spec.specs.Queries.{query_search}
use Rattle.pi_meaning.specs.CoreMeaning.Facts.{fits_modes, fact_term, fact_terms}
use Rattle.pi_meaning.specs.CoreMeaning.Rules.{watch_trees}

-- events, with the value of the first slot in each answer
data Seen : Type 0 where
  saw : Note → Seen
  at : List ℕ → Tree → Seen

unfoldable seen : List (Emitted (Way Solution)) → List Seen
seen [] = []
seen (noted k ∷ events) = saw k ∷ seen events
seen (answered w ∷ events) = at w.path (slot_value 0 w.answer.slots w.answer.state) ∷ seen events

-- what is seen before a cut, and where that stops
record Shown : Type 0 where
  events : List Seen
  stop : ResumedStop

abbrev shows : List Seen → ResumedStop → Shown
shows events stop = record { events = events; stop = stop }

abbrev ended : End → ResumedStop
ended e = stops (Ended e)

-- with paths of so many numbers at most, so many Ticks, and from a path
unfoldable run : List PredTree → GoalTree → ℕ → ℕ → Shown
unfolding seen told_paths cut query_search search draining strictly calling applying collecting counting catching pred_search rule_searches quiet_search searches_of quiet_level search_level predicate_given predicate_called called_at_level first_called rules_ways choice_from rules_taken with_rest follows_then taken_from to_answer on_first to_exception with_handler resumed later_predicates is_later_predicate told find_pred built_in_predicate built_in_function tests comparing_tests kind_tests writing_predicates other_predicates reading_functions integer_functions collection_functions sorting_functions index_functions range_functions naming_functions text_functions making_functions done_by list_of_copies new_in_all with_new_variables then alt first chosen negated caught collected counted evaluated evaluated_all matched_in matched_all_in drained settled settlement is_unchanged are_unchanged settlement_of_goal stable_state passes runs_of loaded count_due same_domain events_from variable_events activations activations_from thrown exception_with raised_with copy occurrences firsts all_unified unified_for outcome assigned joined in_pairs most_pairs unbound_in cells_of_pairs cells value rounds instance followed followed_for order tree_count fits_modes fact_term fact_terms watch_trees function_given value_of written atom_text each_tree is_predicate has_line
run program g most steps =
    let k : Cut (Way Solution) = cut steps (path_trace most (all_names (query_view []) built_searches program) program (query g 1) 6) in
    shows (seen k.events) (stops k.stop)

unfoldable from : List PredTree → GoalTree → ℕ → ℕ → List ℕ → Shown
unfolding seen told_paths told_behind cut resumed_cut query_search search draining strictly calling applying collecting counting catching pred_search rule_searches quiet_search searches_of quiet_level search_level predicate_given predicate_called called_at_level first_called rules_ways choice_from rules_taken with_rest follows_then taken_from to_answer on_first to_exception with_handler resumed later_predicates is_later_predicate told find_pred built_in_predicate built_in_function tests comparing_tests kind_tests writing_predicates other_predicates reading_functions integer_functions collection_functions sorting_functions index_functions range_functions naming_functions text_functions making_functions done_by list_of_copies new_in_all with_new_variables then alt first chosen negated caught collected counted evaluated evaluated_all matched_in matched_all_in drained settled settlement is_unchanged are_unchanged settlement_of_goal stable_state passes runs_of loaded count_due same_domain events_from variable_events activations activations_from thrown exception_with raised_with copy occurrences firsts all_unified unified_for outcome assigned joined in_pairs most_pairs unbound_in cells_of_pairs cells value rounds instance followed followed_for order tree_count fits_modes fact_term fact_terms watch_trees function_given value_of written atom_text each_tree is_predicate has_line
from program g most steps path =
    let k : ResumedCut (Way Solution) = resumed_cut steps (resumed_trace most (all_names (query_view []) built_searches program) program (query g 1) path 6) in
    shows (seen k.events) k.stop

abbrev too_long : ResumedStop
too_long = ended (Raise (atom (codes "path_too_long")))

-- p(X) ?=> X = 1.  p(X) => X = 2.  The call's Tick counts on the way, and without a Tick the run is spent there.
cuts :
    (from p (p_of (var 0)) most_numbers 0 (1 ∷ []) ≡ shows [] (stops Spent))
    × (from p (p_of (var 0)) most_numbers 1 (1 ∷ []) ≡ shows (saw Tick ∷ at (2 ∷ []) (n 2) ∷ []) (ended Done))
    × (from p (p_of (var 0)) most_numbers 1 (2 ∷ []) ≡ shows (saw Tick ∷ []) (ended Done))
    × (from p (p_of (var 0)) most_numbers 1 (3 ∷ []) ≡ shows (saw Tick ∷ []) bad_path)
    × (from p (p_of (var 0)) most_numbers 0 (3 ∷ []) ≡ shows [] (stops Spent))
    × (from [] truth most_numbers 0 [] ≡ shows [] (ended Done))
    × (from [] truth most_numbers 0 (1 ∷ []) ≡ shows [] bad_path)
    × (from member member_goal most_numbers 9 (2 ∷ 1 ∷ []) ≡ shows (saw Tick ∷ saw Tick ∷ saw Tick ∷ at (2 ∷ 2 ∷ 1 ∷ []) c ∷ saw Tick ∷ []) (ended Done))
    × (from member member_goal most_numbers 3 (2 ∷ 1 ∷ []) ≡ shows (saw Tick ∷ saw Tick ∷ saw Tick ∷ at (2 ∷ 2 ∷ 1 ∷ []) c ∷ []) (stops Spent))
    × (from member member_goal most_numbers 2 (2 ∷ 1 ∷ []) ≡ shows (saw Tick ∷ saw Tick ∷ []) (stops Spent))
unfolding from
cuts = (refl, refl, refl, refl, refl, refl, refl, refl, refl, refl)

-- member(X,[a,b,c]), whose paths are 1, 2.1 and 2.2.1. The answer of the path that the run is resumed from isn't given, so it may be longer than those that are told.
long :
    (run member member_goal most_numbers 9 ≡ shows (saw Tick ∷ at (1 ∷ []) a ∷ saw Tick ∷ at (2 ∷ 1 ∷ []) b ∷ saw Tick ∷ at (2 ∷ 2 ∷ 1 ∷ []) c ∷ saw Tick ∷ []) (ended Done))
    × (run member member_goal 2 9 ≡ shows (saw Tick ∷ at (1 ∷ []) a ∷ saw Tick ∷ at (2 ∷ 1 ∷ []) b ∷ saw Tick ∷ []) too_long)
    × (run member member_goal 1 9 ≡ shows (saw Tick ∷ at (1 ∷ []) a ∷ saw Tick ∷ []) too_long)
    × (run member member_goal 1 1 ≡ shows (saw Tick ∷ at (1 ∷ []) a ∷ []) (stops Spent))
    × (run member member_goal 0 9 ≡ shows (saw Tick ∷ []) too_long)
    × (run [] truth 0 9 ≡ shows (at [] (var 0) ∷ []) (ended Done))
    × (from member member_goal 1 9 (1 ∷ []) ≡ shows (saw Tick ∷ saw Tick ∷ []) too_long)
    × (from member member_goal 2 9 (1 ∷ []) ≡ shows (saw Tick ∷ saw Tick ∷ at (2 ∷ 1 ∷ []) b ∷ saw Tick ∷ []) too_long)
    × (from member member_goal 0 9 (2 ∷ 2 ∷ 1 ∷ []) ≡ shows (saw Tick ∷ saw Tick ∷ saw Tick ∷ saw Tick ∷ []) (ended Done))
unfolding run from
long = (refl, refl, refl, refl, refl, refl, refl, refl, refl)

spent-run : IsResumedRun p (query (p_of (var 0)) 1) [] (1 ∷ []) 0 (record { events = []; stop = stops Spent })
unfolding told_behind resumed_cut query_search search draining strictly calling applying collecting counting catching pred_search rule_searches quiet_search searches_of quiet_level search_level predicate_given predicate_called called_at_level first_called rules_ways choice_from rules_taken with_rest follows_then taken_from to_answer on_first to_exception with_handler resumed later_predicates is_later_predicate told find_pred built_in_predicate built_in_function tests comparing_tests kind_tests writing_predicates other_predicates reading_functions integer_functions collection_functions sorting_functions index_functions range_functions naming_functions text_functions making_functions done_by list_of_copies new_in_all with_new_variables then alt first chosen negated caught collected counted evaluated evaluated_all matched_in matched_all_in drained settled settlement is_unchanged are_unchanged settlement_of_goal stable_state passes runs_of loaded count_due same_domain events_from variable_events activations activations_from thrown exception_with raised_with copy occurrences firsts all_unified unified_for outcome assigned joined in_pairs most_pairs unbound_in cells_of_pairs cells value rounds instance followed followed_for order tree_count fits_modes fact_term fact_terms watch_trees function_given value_of written atom_text each_tree is_predicate has_line
spent-run = record { depth = 1; reaches = λ e. absurd cc; is_cut = refl }

-- ---- a resumed run as a query

-- a planner call for which the log has no entry, behind a propagation
abbrev wanted : Call
wanted = record { best = false; start = a; limit = pos 0 }

abbrev planning : LaterSearches
planning = record {
  plain = record { predicate = λ v l name ts s. note (Load 3) (end (Miss wanted)); function = λ name ts s. done };
  solves = λ v l name ts s. simple done;
}

-- p(X), plan(a,P)
abbrev planned : GoalTree
planned = seq (goals (p_of (var 0) ∷ call (codes "plan") (a ∷ var 1 ∷ []) ∷ []))

-- its load counts, and the call is missing on the way; with no Tick the run is spent before; where a path is bad nothing is wanted
asks :
    (query_behind planning p (query planned 2) (1 ∷ []) 1 [] 2 ≡ record { events = noted Tick ∷ noted (Load 3) ∷ []; stop = Ended (Miss wanted) })
    × (query_behind planning p (query planned 2) (1 ∷ []) 0 [] 2 ≡ record { events = []; stop = Spent })
    × (query_behind planning p (query planned 2) (3 ∷ []) 1 [] 2 ≡ record { events = noted Tick ∷ []; stop = Ended Done })
    × (run_loads (query_behind planning p (query planned 2) (1 ∷ []) 1) [] 2 ≡ 3)
unfolding loads_of resumed_cut query_search search draining strictly calling applying collecting counting catching pred_search rule_searches quiet_search searches_of quiet_level search_level predicate_given predicate_called called_at_level first_called rules_ways choice_from rules_taken with_rest follows_then taken_from to_answer on_first to_exception with_handler resumed later_predicates is_later_predicate told find_pred built_in_predicate built_in_function tests comparing_tests kind_tests writing_predicates other_predicates reading_functions integer_functions collection_functions sorting_functions index_functions range_functions naming_functions text_functions making_functions done_by list_of_copies new_in_all with_new_variables then alt first chosen negated caught collected counted evaluated evaluated_all matched_in matched_all_in drained settled settlement is_unchanged are_unchanged settlement_of_goal stable_state passes runs_of loaded count_due same_domain events_from variable_events activations activations_from thrown exception_with raised_with copy occurrences firsts all_unified unified_for outcome assigned joined in_pairs most_pairs unbound_in cells_of_pairs cells value rounds instance followed followed_for order tree_count fits_modes fact_term fact_terms watch_trees function_given value_of written atom_text each_tree is_predicate has_line solve_calls
asks = (refl, refl, refl, refl)
