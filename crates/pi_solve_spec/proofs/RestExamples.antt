-- A small program by rests, worked through the definitions: what its bodies do goes by the rest.
--     final(z) => true.
--     action(a,S,A,K), current_resource() >= 3 => S = z, A = jump, K = 1.
use Rattle.std.specs.Prelude.{◌≡◌, ℕ, pos, true, false, List, [], ◌∷◌, None, codes, refl}
use Rattle.pi_terms.specs.Tree.{Tree, var, int, atom, tree_count, cells}
use Rattle.pi_terms.specs.Order.{order}
use Rattle.pi_terms.specs.Variables.{occurrences}
use Rattle.pi_terms.specs.Substitution.{instance}
use Rattle.pi_terms.specs.PatternTree.{slot, exact_atom, no_patterns, pattern}
use Rattle.pi_constraints.specs.Value.{rounds, value}
use Rattle.pi_constraints.specs.State.{State, empty_state, followed_for, followed}
use Rattle.pi_constraints.specs.Unify.{in_pairs, assigned, joined, outcome, unified_for, unbound_in, cells_of_pairs, most_pairs, all_unified}
use Rattle.pi_constraints.specs.Evaluation.{evaluated, evaluated_all}
use Rattle.pi_constraints.specs.HeadMatch.{matched_in, matched_all_in}
use Rattle.pi_syntax.specs.ExpTree.{ExpTree, quote, no_exps, exp}
use Rattle.pi_core.specs.GoalTree.{truth, call, apply, seq, no_goals, goal, subgoals}
use Rattle.pi_core.specs.CoreTree.{ClauseTree, PredTree, find_pred}
use Rattle.pi_effects.specs.Rows.{done_by, has_line}
use Rattle.pi_effects.specs.Integers.{integer_functions}
use Rattle.pi_effects.specs.Comparing.{comparing_tests}
use Rattle.pi_effects.specs.Kinds.{kind_tests}
use Rattle.pi_effects.specs.Collections.{collection_functions}
use Rattle.pi_effects.specs.Sorting.{sorting_functions}
use Rattle.pi_effects.specs.Indexing.{index_functions}
use Rattle.pi_effects.specs.Ranges.{range_functions}
use Rattle.pi_effects.specs.Naming.{naming_functions}
use Rattle.pi_effects.specs.Texts.{text_functions, writing_predicates}
use Rattle.pi_effects.specs.Making.{making_functions}
use Rattle.pi_effects.specs.BuiltIns.{reading_functions, built_in_function, tests, other_predicates, built_in_predicate, is_predicate}
use Rattle.pi_traces.specs.Trace.{Trace, end, note, Raise, Tick, Deep, one, done, then, alt}
use Rattle.pi_traces.specs.Control.{chosen}
use Rattle.pi_settling.specs.Settle.{settlement as settlement_of_goal, stable_state, passes, runs_of}
use Rattle.pi_settling.specs.Settled.{loaded}
use Rattle.pi_settling.specs.Load.{count_due, same_domain}
use Rattle.pi_settling.specs.Events.{events_from, variable_events}
use Rattle.pi_settling.specs.Answers.{activations, activations_from}
use Rattle.pi_meaning.specs.Shared.Settle.{settled, settlement, is_unchanged, are_unchanged}
use Rattle.pi_meaning.specs.Shared.Drain.{drained}
use Rattle.pi_meaning.specs.Shared.View.{query_view, body_view}
use Rattle.pi_meaning.specs.Shared.Names.{later_predicates, is_later_predicate, is_later_function}
use Rattle.pi_meaning.specs.Shared.Given.{Later}
use Rattle.pi_meaning.specs.Shared.Calls.{predicate_given, function_given}
use Rattle.pi_meaning.specs.CoreMeaning.Instances.{whole}
use Rattle.pi_meaning.specs.CoreMeaning.Meaning.{draining, strictly, calling, applying, meaning, meaning_of_all}
use Rattle.pi_meaning.specs.CoreMeaning.Rules.{pred_run, calls_of, rules, quiet_level, level_at}
use Rattle.pi_meaning.specs.CoreMeaning.Run.{Solution, told, query_trace}
use Rattle.pi_solve_spec.specs.Bodies.{Offer}
use Rattle.pi_solve_spec.specs.ProgramBodies.{bodies_of}
use Rattle.pi_solve_spec.specs.Rests.{is_by_rests}
use Rattle.pi_solve_spec.specs.Written.{AsksNone, AskNone}

-- nothing that a later stage gives is used
abbrev none_later : Later
none_later = record { predicate = λ v l name ts s. done; function = λ name ts s. done }

abbrev final_clause : ClauseTree
final_clause = record { head = pattern (exact_atom (codes "z")) no_patterns; guard = truth; back = false; watches = []; body = truth; value = None; slots = 0 }

abbrev action_clause : ClauseTree
action_clause = record {
  head = pattern (exact_atom (codes "a")) (pattern (slot 0) (pattern (slot 1) (pattern (slot 2) no_patterns)));
  guard = seq (goal (apply (codes "current_resource") [] 3) (goal (call (codes ">=") (var 3 ∷ int (pos 3) ∷ [])) no_goals));
  back = false;
  watches = [];
  body = seq (goal (call (codes "=") (var 0 ∷ atom (codes "z") ∷ [])) (goal (call (codes "=") (var 1 ∷ atom (codes "jump") ∷ [])) (goal (call (codes "=") (var 2 ∷ int (pos 1) ∷ [])) no_goals)));
  value = None;
  slots = 4;
}

abbrev jumping : List PredTree
jumping =
    record { name = codes "final"; arity = 1; function = false; quiet = false; index = None; clauses = final_clause ∷ [] } ∷
    record { name = codes "action"; arity = 4; function = false; quiet = false; index = None; clauses = action_clause ∷ [] } ∷
    []

is-by_rests : is_by_rests jumping ≡ true
unfolding subgoals
is-by_rests = refl

-- the trace of `action(a,_,_,_)` with this rest, at depth 1
unfoldable action_with : ℕ → Trace Offer
unfolding then alt chosen settled settlement is_unchanged are_unchanged settlement_of_goal stable_state passes runs_of loaded count_due same_domain events_from variable_events activations activations_from drained later_predicates is_later_predicate is_later_function predicate_given function_given draining strictly calling applying meaning meaning_of_all pred_run calls_of rules quiet_level level_at find_pred evaluated evaluated_all matched_in matched_all_in built_in_function built_in_predicate is_predicate has_line tests comparing_tests kind_tests writing_predicates other_predicates reading_functions done_by integer_functions collection_functions sorting_functions index_functions range_functions naming_functions text_functions making_functions tree_count cells order occurrences instance rounds value followed_for followed in_pairs assigned joined outcome unified_for unbound_in cells_of_pairs most_pairs all_unified
action_with r = (bodies_of none_later jumping).action (body_view [] [] r) (atom (codes "a")) 1

three-are_enough : action_with 3 ≡ note Tick (one (record { state = atom (codes "z"); action = atom (codes "jump"); cost = int (pos 1) }))
unfolding action_with
three-are_enough = refl

two-are_not : action_with 2 ≡ note Tick done
unfolding action_with
two-are_not = refl

-- at depth 0 the call is too deep
unfoldable final_at : Tree → ℕ → Trace State
unfolding then alt chosen settled settlement is_unchanged are_unchanged settlement_of_goal stable_state passes runs_of loaded count_due same_domain events_from variable_events activations activations_from drained predicate_given draining strictly calling meaning pred_run calls_of rules quiet_level level_at find_pred evaluated evaluated_all matched_in matched_all_in built_in_predicate has_line tests comparing_tests kind_tests writing_predicates other_predicates later_predicates is_later_predicate done_by tree_count order followed_for followed
final_at s d = (bodies_of none_later jumping).final (body_view [] [] 0) s d

z-is_final : final_at (atom (codes "z")) 1 ≡ note Tick (one empty_state)
unfolding final_at
z-is_final = refl

a-is_not : final_at (atom (codes "a")) 1 ≡ note Tick done
unfolding final_at
a-is_not = refl

no-depth : final_at (atom (codes "z")) 0 ≡ end Deep
unfolding final_at
no-depth = refl

-- X = current_resource(), in a query
unfoldable resource_in_query : Trace Solution
unfolding then alt drained is_later_function function_given draining strictly applying meaning calls_of quiet_level level_at evaluated_all built_in_function reading_functions done_by has_line integer_functions collection_functions sorting_functions index_functions range_functions naming_functions text_functions making_functions tree_count query_trace told
resource_in_query = query_trace (whole (query_view []) none_later []) [] (record { goal = apply (codes "current_resource") [] 0; helpers = []; names = []; slots = 1 }) 0

no-resource : resource_in_query ≡ end (Raise (atom (codes "no_resource")))
unfolding resource_in_query
no-resource = refl

-- as it is written: another call by its argument, and a term behind `$`
unasked-calls :
    AsksNone (ExpTree.call (codes "current_resource") (exp (ExpTree.int (pos 1)) no_exps))
    × AsksNone (quote (ExpTree.call (codes "current_resource") no_exps))
unfolding AsksNone AskNone
unasked-calls = ((tt, (tt, tt)), tt)
