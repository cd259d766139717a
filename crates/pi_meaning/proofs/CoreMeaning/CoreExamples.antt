-- Small programs, worked through the definitions to their traces: what the rules are meant to say of them.
use Rattle.std.proofs.Common.{◌≡◌, inl, inr, ℕ, zero, suc, ◌<◌, List, [], ◌∷◌, cond, refl, sym, subst, arith}
use Rattle.std.specs.Prelude.{Bool, true, false, Some, None, pos, codes, Contains, slice_index_or}
use Rattle.pi_terms.specs.Tree.{Tree, var, int, atom, comp, no_trees, tree, tree_count, cells}
use Rattle.pi_terms.specs.Order.{order}
use Rattle.pi_terms.specs.Variables.{occurrences, firsts}
use Rattle.pi_terms.specs.Substitution.{instance}
use Rattle.pi_terms.specs.Copy.{copy}
use Rattle.pi_constraints.specs.Value.{rounds, value}
use Rattle.pi_constraints.specs.State.{State, Variable, free, bound, on_ins, empty_state, followed_for, followed}
use Rattle.pi_constraints.specs.Unify.{in_pairs, assigned, joined, outcome, unified_for, unbound_in, cells_of_pairs, most_pairs, all_unified}
use Rattle.pi_terms.specs.PatternTree.{PatternTree, slot, exact_int, exact_atom, compound, named, no_patterns, pattern}
use Rattle.pi_core.specs.GoalTree.{GoalTree, truth, fail, tick, call, apply, seq, alternatives, if_else, not, once, collect, count, catch, no_goals, goal}
use Rattle.pi_traces.specs.Trace.{Trace, end, note, ans, Done, Raise, Deep, Tick, noted, answered, alt, then, first}
use Rattle.pi_traces.specs.Depth.{Spent, Ended, cut}
use Rattle.pi_traces.specs.Control.{negated, chosen, collected, counted, caught}
use Rattle.pi_meaning.specs.Shared.Drain.{drained}
use Rattle.pi_constraints.specs.Evaluation.{evaluated, evaluated_all, with_new_variables}
use Rattle.pi_constraints.specs.HeadMatch.{matched_in, matched_all_in}
use Rattle.pi_effects.specs.Exception.{thrown, exception_with}
use Rattle.pi_effects.specs.Rows.{done_by, has_line}
use Rattle.pi_effects.specs.Comparing.{comparing_tests}
use Rattle.pi_effects.specs.Kinds.{kind_tests}
use Rattle.pi_effects.specs.Texts.{text_functions, writing_predicates}
use Rattle.pi_effects.specs.Integers.{integer_functions}
use Rattle.pi_effects.specs.Collections.{collection_functions}
use Rattle.pi_effects.specs.Sorting.{sorting_functions}
use Rattle.pi_effects.specs.Indexing.{index_functions}
use Rattle.pi_effects.specs.Ranges.{range_functions}
use Rattle.pi_effects.specs.Naming.{naming_functions}
use Rattle.pi_effects.specs.Making.{making_functions}
use Rattle.pi_effects.specs.BuiltIns.{built_in_predicate, built_in_function, tests, other_predicates, reading_functions, is_predicate}
use Rattle.pi_meaning.specs.Shared.Raise.{raised_with}
use Rattle.pi_meaning.specs.Shared.View.{query_view}
use Rattle.pi_meaning.specs.CoreMeaning.Instances.{built_later, whole}
use Rattle.pi_meaning.specs.Shared.Builtin.{effect, function_effect}
use Rattle.pi_meaning.specs.Shared.Names.{later_predicates, is_later_predicate, is_later_function}
use Rattle.pi_meaning.specs.Shared.Calls.{predicate_given, predicate_called, function_given, called_at_level, first_called}
use Rattle.pi_effects.specs.Items.{each_tree}
use Rattle.pi_core.specs.CoreTree.{ClauseTree, PredTree, QueryTree, is_pred, find_pred}
use Rattle.pi_meaning.specs.CoreMeaning.Meaning.{draining, strictly, calling, applying, collecting, counting, catching, meaning, meaning_of_all, meaning_of_any}
use Rattle.pi_terms.specs.ListCopies.{list_of_copies, new_in_all}
use Rattle.pi_meaning.specs.CoreMeaning.Facts.{fits_modes, fact_term, fact_terms, facts}
use Rattle.pi_syntax.specs.declared.program.Mode.{Mode}
use Rattle.pi_core.specs.declared.core_program.SlotWatch.{SlotWatch}
use Rattle.pi_meaning.specs.CoreMeaning.Quiet.{Callee, Passes, Reaches, ReachesFrom, TicksBetween}
use Rattle.pi_meaning.specs.CoreMeaning.Rules.{watch_trees, pred_run, function_run, calls_of, rules, quiet_level, level_at}
use Rattle.pi_meaning.specs.CoreMeaning.Run.{Solution, told, query_trace}
use Rattle.pi_meaning.specs.Shared.Settle.{settled, settlement, is_unchanged, are_unchanged}
use Rattle.pi_settling.specs.Settle.{settlement as settlement_of_goal, stable_state, passes, runs_of}
use Rattle.pi_settling.specs.Settled.{loaded}
use Rattle.pi_settling.specs.Load.{count_due, same_domain}
use Rattle.pi_settling.specs.Events.{events_from, variable_events}
use Rattle.pi_settling.specs.Answers.{activations, activations_from}

-- the goal X = n, for the X of a slot
abbrev number_is : ℕ → ℕ → GoalTree
number_is k n = call (codes "=") (var k ∷ int (pos n) ∷ [])

abbrev rule : PatternTree → Bool → GoalTree → ℕ → ClauseTree
rule head back body slots = record { head = pattern head no_patterns; guard = truth; back = back; watches = []; body = body; value = None; slots = slots }

-- a predicate of one argument
abbrev predicate : List ℕ → Bool → List ClauseTree → PredTree
predicate name quiet clauses = record { name = name; arity = 1; function = false; quiet = quiet; index = None; clauses = clauses }

abbrev query : GoalTree → ℕ → QueryTree
query g slots = record { goal = g; helpers = []; names = []; slots = slots }

abbrev trace_of : List PredTree → GoalTree → ℕ → ℕ → Trace Solution
trace_of program g slots depth = query_trace (whole (query_view []) built_later program) program (query g slots) depth

-- the state of these variables
abbrev a_state : List Variable → State
a_state variables = record { variables = variables; constraints = []; agents = []; waiting = [] }

-- p(X) ?=> X = 1.  p(X) => X = 2.  The first rule is committed where the Boolean is false.
abbrev p_program : Bool → List PredTree
p_program back = predicate (codes "p") false (rule (slot 0) back (number_is 0 1) 1 ∷ rule (slot 0) false (number_is 0 2) 1 ∷ []) ∷ []

-- q(1) => true.
abbrev q_program : List PredTree
q_program = predicate (codes "q") false (rule (exact_int (pos 1)) false truth 0 ∷ []) ∷ []

abbrev goal_of : List ℕ → Tree → GoalTree
goal_of name t = call name (t ∷ [])

-- the answer whose one slot holds a variable, which is this number
abbrev number_answer : ℕ → Solution
number_answer n = record { slots = Some (var 0) ∷ []; state = a_state (bound (int (pos n)) ∷ []) }

-- A backtrackable rule leaves the later rule; a committed one does not. Both belong to one call and so to one Tick.
rules-in_order :
    (trace_of (p_program true) (goal_of (codes "p") (var 0)) 1 1 ≡ note Tick (ans (number_answer 1) (ans (number_answer 2) (end Done))))
    × (trace_of (p_program false) (goal_of (codes "p") (var 0)) 1 1 ≡ note Tick (ans (number_answer 1) (end Done)))
    × (trace_of (p_program true) (goal_of (codes "p") (var 0)) 1 0 ≡ end Deep)
    × (cut 0 (trace_of (p_program true) (goal_of (codes "p") (var 0)) 1 1) ≡ record { events = []; stop = Spent })
    × (cut 1 (trace_of (p_program true) (goal_of (codes "p") (var 0)) 1 1)
    ≡ record { events = noted Tick ∷ answered (number_answer 1) ∷ answered (number_answer 2) ∷ []; stop = Ended Done })
unfolding query_trace told draining strictly calling applying collecting counting catching pred_run function_run calls_of level_at quiet_level rules find_pred meaning meaning_of_all meaning_of_any effect function_effect built_in_predicate built_in_function tests comparing_tests kind_tests writing_predicates other_predicates reading_functions integer_functions collection_functions sorting_functions index_functions range_functions naming_functions text_functions making_functions done_by list_of_copies new_in_all with_new_variables then alt first chosen negated caught collected counted cut evaluated evaluated_all matched_in matched_all_in drained settled settlement is_unchanged are_unchanged settlement_of_goal stable_state passes runs_of loaded count_due same_domain events_from variable_events activations activations_from thrown exception_with raised_with copy occurrences firsts all_unified unified_for outcome assigned joined in_pairs most_pairs unbound_in cells_of_pairs cells value rounds instance followed followed_for order tree_count each_tree predicate_given predicate_called function_given called_at_level first_called later_predicates is_later_predicate is_later_function has_line is_predicate
rules-in_order = (refl, refl, refl, refl, refl)

-- Matching binds no variable of the call.
matching-binds_none :
    (trace_of q_program (goal_of (codes "q") (var 0)) 1 1 ≡ note Tick (end Done))
    × (trace_of q_program (goal_of (codes "q") (int (pos 1))) 0 1 ≡ note Tick (ans (record { slots = []; state = empty_state }) (end Done)))
unfolding query_trace told draining strictly calling applying collecting counting catching pred_run function_run calls_of level_at quiet_level rules find_pred meaning meaning_of_all meaning_of_any effect function_effect built_in_predicate built_in_function tests comparing_tests kind_tests writing_predicates other_predicates reading_functions integer_functions collection_functions sorting_functions index_functions range_functions naming_functions text_functions making_functions done_by list_of_copies new_in_all with_new_variables then alt first chosen negated caught collected counted cut evaluated evaluated_all matched_in matched_all_in drained settled settlement is_unchanged are_unchanged settlement_of_goal stable_state passes runs_of loaded count_due same_domain events_from variable_events activations activations_from thrown exception_with raised_with copy occurrences firsts all_unified unified_for outcome assigned joined in_pairs most_pairs unbound_in cells_of_pairs cells value rounds instance followed followed_for order tree_count each_tree predicate_given predicate_called function_given called_at_level first_called later_predicates is_later_predicate is_later_function has_line is_predicate
matching-binds_none = (refl, refl)

-- catch((X = 1, throw(e)), e, true): the binding of the goal is gone; where the terms don't unify, the exception goes on.
catch-leaves_nothing :
    (trace_of [] (catch (seq (goal (number_is 0 1) (goal (call (codes "throw") (atom (codes "e") ∷ [])) no_goals))) (atom (codes "e")) truth) 1 0
    ≡ ans (record { slots = None ∷ []; state = empty_state }) (end Done))
    × (trace_of [] (catch (call (codes "throw") (atom (codes "e") ∷ [])) (atom (codes "f")) truth) 1 0 ≡ end (Raise (atom (codes "e"))))
unfolding query_trace told draining strictly calling applying collecting counting catching pred_run function_run calls_of level_at quiet_level rules find_pred meaning meaning_of_all meaning_of_any effect function_effect built_in_predicate built_in_function tests comparing_tests kind_tests writing_predicates other_predicates reading_functions integer_functions collection_functions sorting_functions index_functions range_functions naming_functions text_functions making_functions done_by list_of_copies new_in_all with_new_variables then alt first chosen negated caught collected counted cut evaluated evaluated_all matched_in matched_all_in drained settled settlement is_unchanged are_unchanged settlement_of_goal stable_state passes runs_of loaded count_due same_domain events_from variable_events activations activations_from thrown exception_with raised_with copy occurrences firsts all_unified unified_for outcome assigned joined in_pairs most_pairs unbound_in cells_of_pairs cells value rounds instance followed followed_for order tree_count each_tree predicate_given predicate_called function_given called_at_level first_called later_predicates is_later_predicate is_later_function has_line is_predicate
catch-leaves_nothing = (refl, refl)

-- A quiet predicate for a loop: turn([_|T]) => tick, turn(T).  turn([]) => true.  A turn takes one from the depth, the
-- calls take nothing.
abbrev loop_program : List PredTree
loop_program = predicate (codes "turn") true
    (rule (compound (codes "[|]") (pattern (slot 0) (pattern (slot 1) no_patterns))) false (seq (goal tick (goal (goal_of (codes "turn") (var 1)) no_goals))) 2
    ∷ rule (exact_atom (codes "[]")) false truth 0 ∷ []) ∷ []

abbrev list_of : List Tree → Tree
list_of [] = atom (codes "[]")
list_of (t ∷ ts) = comp (codes "[|]") (tree t (tree (list_of ts) no_trees))

loops-tick :
    (trace_of loop_program (goal_of (codes "turn") (list_of [])) 0 0 ≡ ans (record { slots = []; state = empty_state }) (end Done))
    × (trace_of loop_program (goal_of (codes "turn") (list_of (int (pos 7) ∷ []))) 0 0 ≡ end Deep)
    × (trace_of loop_program (goal_of (codes "turn") (list_of (int (pos 7) ∷ int (pos 8) ∷ []))) 0 1 ≡ note Tick (end Deep))
    × (trace_of loop_program (goal_of (codes "turn") (list_of (int (pos 7) ∷ int (pos 8) ∷ []))) 0 2
    ≡ note Tick (note Tick (ans (record { slots = []; state = empty_state }) (end Done))))
unfolding query_trace told draining strictly calling applying collecting counting catching pred_run function_run calls_of level_at quiet_level rules find_pred meaning meaning_of_all meaning_of_any effect function_effect built_in_predicate built_in_function tests comparing_tests kind_tests writing_predicates other_predicates reading_functions integer_functions collection_functions sorting_functions index_functions range_functions naming_functions text_functions making_functions done_by list_of_copies new_in_all with_new_variables then alt first chosen negated caught collected counted cut evaluated evaluated_all matched_in matched_all_in drained settled settlement is_unchanged are_unchanged settlement_of_goal stable_state passes runs_of loaded count_due same_domain events_from variable_events activations activations_from thrown exception_with raised_with copy occurrences firsts all_unified unified_for outcome assigned joined in_pairs most_pairs unbound_in cells_of_pairs cells value rounds instance followed followed_for order tree_count each_tree predicate_given predicate_called function_given called_at_level first_called later_predicates is_later_predicate is_later_function has_line is_predicate
loops-tick = (refl, refl, refl, refl)

-- find_all of 1 and of a variable: copies with new variables, and the bindings are gone; count_all counts them. The
-- second variable of each state was made for the copy.
answers-collected :
    (trace_of [] (collect (alternatives (goal (number_is 0 1) (goal (call (codes "=") (var 0 ∷ var 0 ∷ [])) no_goals))) 0 1) 2 0
    ≡ ans (record { slots = None ∷ Some (list_of (int (pos 1) ∷ var 0 ∷ [])) ∷ []; state = a_state (free ∷ []) }) (end Done))
    × (trace_of [] (count (alternatives (goal truth (goal fail (goal truth no_goals)))) 0) 1 0
    ≡ ans (record { slots = Some (int (pos 2)) ∷ []; state = empty_state }) (end Done))
unfolding query_trace told draining strictly calling applying collecting counting catching pred_run function_run calls_of level_at quiet_level rules find_pred meaning meaning_of_all meaning_of_any effect function_effect built_in_predicate built_in_function tests comparing_tests kind_tests writing_predicates other_predicates reading_functions integer_functions collection_functions sorting_functions index_functions range_functions naming_functions text_functions making_functions done_by list_of_copies new_in_all with_new_variables then alt first chosen negated caught collected counted cut evaluated evaluated_all matched_in matched_all_in drained settled settlement is_unchanged are_unchanged settlement_of_goal stable_state passes runs_of loaded count_due same_domain events_from variable_events activations activations_from thrown exception_with raised_with copy occurrences firsts all_unified unified_for outcome assigned joined in_pairs most_pairs unbound_in cells_of_pairs cells value rounds instance followed followed_for order tree_count each_tree predicate_given predicate_called function_given called_at_level first_called later_predicates is_later_predicate is_later_function has_line is_predicate
answers-collected = (refl, refl)

-- f(1) = 2.  A call of a function that no rule applies to is raised.
abbrev function_program : List PredTree
function_program = record { name = codes "f"; arity = 1; function = true; quiet = false; index = None; clauses = record { head = pattern (exact_int (pos 1)) no_patterns; guard = truth; back = false; watches = []; body = truth; value = Some (int (pos 2)); slots = 0 } ∷ [] } ∷ []

functions-have_values :
    (trace_of function_program (apply (codes "f") (int (pos 1) ∷ []) 0) 1 1
    ≡ note Tick (ans (record { slots = Some (int (pos 2)) ∷ []; state = empty_state }) (end Done)))
    × (trace_of function_program (apply (codes "f") (int (pos 3) ∷ []) 0) 1 1
    ≡ note Tick (end (Raise (comp (codes "unresolved_function_call") (tree (comp (codes "f") (tree (int (pos 3)) no_trees)) no_trees)))))
unfolding query_trace told draining strictly calling applying collecting counting catching pred_run function_run calls_of level_at quiet_level rules find_pred meaning meaning_of_all meaning_of_any effect function_effect built_in_predicate built_in_function tests comparing_tests kind_tests writing_predicates other_predicates reading_functions integer_functions collection_functions sorting_functions index_functions range_functions naming_functions text_functions making_functions done_by list_of_copies new_in_all with_new_variables then alt first chosen negated caught collected counted cut evaluated evaluated_all matched_in matched_all_in drained settled settlement is_unchanged are_unchanged settlement_of_goal stable_state passes runs_of loaded count_due same_domain events_from variable_events activations activations_from thrown exception_with raised_with copy occurrences firsts all_unified unified_for outcome assigned joined in_pairs most_pairs unbound_in cells_of_pairs cells value rounds instance followed followed_for order tree_count each_tree predicate_given predicate_called function_given called_at_level first_called later_predicates is_later_predicate is_later_function has_line is_predicate
functions-have_values = (refl, refl)

-- index (-) e(X@f(_)).  A fact is unified with the call, with new variables; of an unbound variable `+` makes no use.
abbrev fact_program : Mode → List PredTree
fact_program mode = record { name = codes "e"; arity = 1; function = false; quiet = false; index = Some ((mode ∷ []) ∷ []); clauses = rule (named 0 (compound (codes "f") (pattern (slot 1) no_patterns))) false truth 2 ∷ [] } ∷ []

facts-unify :
    (trace_of (fact_program Mode.Minus) (goal_of (codes "e") (var 0)) 1 1
    ≡ note Tick (ans (record { slots = Some (var 0) ∷ []; state = a_state (bound (comp (codes "f") (tree (var 2) no_trees)) ∷ bound (comp (codes "f") (tree (var 2) no_trees)) ∷ free ∷ []) }) (end Done)))
    × (trace_of (fact_program Mode.Plus) (goal_of (codes "e") (var 0)) 1 1 ≡ note Tick (end Done))
unfolding query_trace told draining strictly calling applying collecting counting catching pred_run function_run calls_of level_at quiet_level rules find_pred meaning meaning_of_all meaning_of_any effect function_effect built_in_predicate built_in_function tests comparing_tests kind_tests writing_predicates other_predicates reading_functions integer_functions collection_functions sorting_functions index_functions range_functions naming_functions text_functions making_functions done_by list_of_copies new_in_all with_new_variables then alt first chosen negated caught collected counted cut evaluated evaluated_all matched_in matched_all_in drained settled settlement is_unchanged are_unchanged settlement_of_goal stable_state passes runs_of loaded count_due same_domain events_from variable_events activations activations_from thrown exception_with raised_with copy occurrences firsts all_unified unified_for outcome assigned joined in_pairs most_pairs unbound_in cells_of_pairs cells value rounds instance followed followed_for order tree_count each_tree predicate_given predicate_called function_given called_at_level first_called later_predicates is_later_predicate is_later_function has_line is_predicate facts fact_term fact_terms fits_modes
facts-unify = (refl, refl)

-- Conditions, `once`, `not` and guards take the first answer; the bindings of a condition and of a guard stay.
-- r(X), p(X) => true.
abbrev guarded_program : List PredTree
guarded_program = predicate (codes "r") false (record { head = pattern (slot 0) no_patterns; guard = goal_of (codes "p") (var 0); back = false; watches = []; body = truth; value = None; slots = 1 } ∷ []) ∷ p_program true

conditions-take_first :
    (trace_of (p_program true) (if_else (goal_of (codes "p") (var 0)) truth fail) 1 1 ≡ note Tick (ans (number_answer 1) (end Done)))
    × (trace_of (p_program true) (once (goal_of (codes "p") (var 0))) 1 1 ≡ note Tick (ans (number_answer 1) (end Done)))
    × (trace_of (p_program true) (not (goal_of (codes "p") (var 0))) 1 1 ≡ note Tick (end Done))
    × (trace_of q_program (not (goal_of (codes "q") (int (pos 2)))) 0 1 ≡ note Tick (ans (record { slots = []; state = empty_state }) (end Done)))
    × (trace_of guarded_program (goal_of (codes "r") (var 0)) 1 2 ≡ note Tick (note Tick (ans (number_answer 1) (end Done))))
unfolding query_trace told draining strictly calling applying collecting counting catching pred_run function_run calls_of level_at quiet_level rules find_pred meaning meaning_of_all meaning_of_any effect function_effect built_in_predicate built_in_function tests comparing_tests kind_tests writing_predicates other_predicates reading_functions integer_functions collection_functions sorting_functions index_functions range_functions naming_functions text_functions making_functions done_by list_of_copies new_in_all with_new_variables then alt first chosen negated caught collected counted cut evaluated evaluated_all matched_in matched_all_in drained settled settlement is_unchanged are_unchanged settlement_of_goal stable_state passes runs_of loaded count_due same_domain events_from variable_events activations activations_from thrown exception_with raised_with copy occurrences firsts all_unified unified_for outcome assigned joined in_pairs most_pairs unbound_in cells_of_pairs cells value rounds instance followed followed_for order tree_count each_tree predicate_given predicate_called function_given called_at_level first_called later_predicates is_later_predicate is_later_function has_line is_predicate
conditions-take_first = (refl, refl, refl, refl, refl)

-- w(X), {ins(X)} => fail.  w(X) => true.  The call succeeds, and the state has a new agent with the variable of the event.
-- The first rule is committed, also where it is said to leave later ones as alternatives.
abbrev agent_program : Bool → List PredTree
agent_program back = predicate (codes "w") false
    (record { head = pattern (slot 0) no_patterns; guard = truth; back = back; watches = SlotWatch.Ins 0 ∷ []; body = fail; value = None; slots = 1 }
    ∷ rule (slot 0) false truth 1 ∷ []) ∷ []

abbrev with_one_agent : Trace Solution
with_one_agent = note Tick (ans (record {
  slots = Some (var 0) ∷ [];
  state = record { variables = free ∷ []; constraints = []; agents = record { call = comp (codes "w") (tree (var 0) no_trees); rule = 0; watches = on_ins (var 0) ∷ []; alive = true } ∷ []; waiting = [] };
}) (end Done))

rules-suspend :
    (trace_of (agent_program false) (goal_of (codes "w") (var 0)) 1 1 ≡ with_one_agent)
    × (trace_of (agent_program true) (goal_of (codes "w") (var 0)) 1 1 ≡ with_one_agent)
unfolding query_trace told draining strictly calling applying collecting counting catching pred_run function_run calls_of level_at quiet_level rules find_pred meaning meaning_of_all meaning_of_any effect function_effect built_in_predicate built_in_function tests comparing_tests kind_tests writing_predicates other_predicates reading_functions integer_functions collection_functions sorting_functions index_functions range_functions naming_functions text_functions making_functions done_by list_of_copies new_in_all with_new_variables then alt first chosen negated caught collected counted cut evaluated evaluated_all matched_in matched_all_in drained settled settlement is_unchanged are_unchanged settlement_of_goal stable_state passes runs_of loaded count_due same_domain events_from variable_events activations activations_from thrown exception_with raised_with copy occurrences firsts all_unified unified_for outcome assigned joined in_pairs most_pairs unbound_in cells_of_pairs cells value rounds instance followed followed_for order tree_count each_tree predicate_given predicate_called function_given called_at_level first_called later_predicates is_later_predicate is_later_function has_line is_predicate watch_trees
rules-suspend = (refl, refl)

-- g(X) = 1 => fail.  g(X) = 2.  The first rule of a function is committed, also where it is said to leave later ones as
-- alternatives: the call has no value.
abbrev committed_program : List PredTree
committed_program = record {
  name = codes "g";
  arity = 1;
  function = true;
  quiet = false;
  index = None;
  clauses = record { head = pattern (slot 0) no_patterns; guard = truth; back = true; watches = []; body = fail; value = Some (int (pos 1)); slots = 1 }
      ∷ record { head = pattern (slot 0) no_patterns; guard = truth; back = false; watches = []; body = truth; value = Some (int (pos 2)); slots = 1 } ∷ [];
} ∷ []

functions-commit :
    trace_of committed_program (apply (codes "g") (int (pos 3) ∷ []) 0) 1 1
    ≡ note Tick (end (Raise (comp (codes "unresolved_function_call") (tree (comp (codes "g") (tree (int (pos 3)) no_trees)) no_trees))))
unfolding query_trace told draining strictly calling applying collecting counting catching pred_run function_run calls_of level_at quiet_level rules find_pred meaning meaning_of_all meaning_of_any effect function_effect built_in_predicate built_in_function tests comparing_tests kind_tests writing_predicates other_predicates reading_functions integer_functions collection_functions sorting_functions index_functions range_functions naming_functions text_functions making_functions done_by list_of_copies new_in_all with_new_variables then alt first chosen negated caught collected counted cut evaluated evaluated_all matched_in matched_all_in drained settled settlement is_unchanged are_unchanged settlement_of_goal stable_state passes runs_of loaded count_due same_domain events_from variable_events activations activations_from thrown exception_with raised_with copy occurrences firsts all_unified unified_for outcome assigned joined in_pairs most_pairs unbound_in cells_of_pairs cells value rounds instance followed followed_for order tree_count each_tree predicate_given predicate_called function_given called_at_level first_called later_predicates is_later_predicate is_later_function has_line is_predicate
functions-commit = refl

-- In the loop a Tick stands before the call of the quiet predicate: no way leads from one of its clauses to a call.

abbrev quiet_turn : PredTree
quiet_turn = predicate (codes "turn") true
    (rule (compound (codes "[|]") (pattern (slot 0) (pattern (slot 1) no_patterns))) false (seq (goal tick (goal (goal_of (codes "turn") (var 1)) no_goals))) 2
    ∷ rule (exact_atom (codes "[]")) false truth 0 ∷ [])

NoWay : ClauseTree → Type 0
NoWay clause = (c : Callee) → ReachesFrom c clause → ⊥

no_way-before : (c : Callee) → ReachesFrom c (rule (compound (codes "[|]") (pattern (slot 0) (pattern (slot 1) no_patterns))) false (seq (goal tick (goal (goal_of (codes "turn") (var 1)) no_goals))) 2) → ⊥
unfolding Reaches Passes
no_way-before c (inl a) = a
no_way-before c (inr (_, inl a)) = a
no_way-before c (inr (_, inr a)) = a.0

no_way-out : (c : Callee) → ReachesFrom c (rule (exact_atom (codes "[]")) false truth 0) → ⊥
unfolding Reaches Passes
no_way-out c (inl a) = a
no_way-out c (inr a) = a.1

no_way : (k : ℕ) (clause : ClauseTree) → k < 2 → slice_index_or quiet_turn.clauses k clause ≡ clause → NoWay clause
unfolding NoWay
no_way zero clause h is = subst NoWay is no_way-before
no_way (suc zero) clause h is = subst NoWay is no_way-out
no_way (suc (suc k)) clause h is = absurd (omega (arith, h))

found-turn : (b : Bool) (pred : PredTree) → cond b (Some quiet_turn) None ≡ Some pred → quiet_turn ≡ pred
found-turn true pred e = cc
found-turn false pred e = absurd cc

loops-have_ticks : TicksBetween loop_program
unfolding find_pred NoWay
loops-have_ticks = record {
  rank = λ c. 0;
  below = λ c pred quiet. omega arith;
  falls = λ c d pred other clause quiet within reach more.
      let same : quiet_turn ≡ pred = found-turn (is_pred c.function c.name c.arity quiet_turn) pred quiet.0 in
      let there : Contains quiet_turn.clauses clause = subst (λ p. Contains p.clauses clause) (sym same) within in
      absurd (no_way there.0 clause there.1 there.2 d reach);
}
