-- Small programs, run step by step: what the machine does, and what it keeps.
use Rattle.std.proofs.Common.{◌≡◌, ℕ, zero, suc, List, [], ◌∷◌, refl}
use Rattle.std.specs.Prelude.{Bool, true, false, Some, None, pos, codes}
use Rattle.pi_terms.specs.Tree.{Tree, var, int, atom, comp, no_trees, tree, tree_count, cells}
use Rattle.pi_terms.specs.Order.{order}
use Rattle.pi_terms.specs.Variables.{occurrences, firsts}
use Rattle.pi_terms.specs.Substitution.{instance}
use Rattle.pi_terms.specs.Copy.{copy}
use Rattle.pi_constraints.specs.Value.{rounds, value}
use Rattle.pi_constraints.specs.State.{Variable, bound, State, followed_for, followed}
use Rattle.pi_constraints.specs.Unify.{in_pairs, assigned, joined, outcome, unified_for, unbound_in, cells_of_pairs, most_pairs, all_unified}
use Rattle.pi_terms.specs.PatternTree.{slot, exact_int, no_patterns, pattern}
use Rattle.pi_core.specs.GoalTree.{GoalTree, truth, call, seq, alternatives, once, catch, no_goals, goal}
use Rattle.pi_traces.specs.Trace.{Tick, Emitted, noted, answered, alt, then, Load, Out}
use Rattle.pi_settling.specs.Goals.{constraint_goals}
use Rattle.pi_settling.specs.SolveCalls.{solve_calls}
use Rattle.pi_meaning.specs.CoreMeaning.Facts.{fits_modes, fact_term, fact_terms}
use Rattle.pi_syntax.specs.declared.program.Mode.{Mode}
use Rattle.pi_constraints.specs.Evaluation.{evaluated, evaluated_all, with_new_variables}
use Rattle.pi_constraints.specs.HeadMatch.{matched_in, matched_all_in}
use Rattle.pi_effects.specs.Exception.{thrown, type_error}
use Rattle.pi_effects.specs.Items.{each_tree}
use Rattle.pi_meaning.specs.Shared.Names.{is_later_predicate, later_predicates}
use Rattle.pi_meaning.specs.Machine.NamedGoals.{goal_by_name, slots_from}
use Rattle.pi_meaning.specs.Shared.View.{query_view}
use Rattle.pi_core.specs.CoreTree.{ClauseTree, PredTree, find_pred}
use Rattle.pi_meaning.specs.CoreMeaning.Run.{Solution}
use Rattle.pi_meaning.specs.Machine.Configuration.{going, failed, raising, Config, config, in_places}
use Rattle.pi_meaning.specs.Machine.Step.{Outcome, silently, with_tick, quietly, deeper, answering, ending, try_rules, try_facts, try_clauses, from_unifying, goal_step, frame_step, newest_open, strict_step, fits, answer_step, end_step, fail_step, raise_step, step, start, loading, writing, first_now, unknown_by}
use Rattle.pi_effects.specs.BuiltIns.{built_in_predicate, built_in_function, is_predicate, tests, other_predicates}
use Rattle.pi_effects.specs.Comparing.{comparing_tests}
use Rattle.pi_effects.specs.Kinds.{kind_tests}
use Rattle.pi_effects.specs.Texts.{writing_predicates}
use Rattle.pi_effects.specs.Rows.{done_by, has_line}
use Rattle.pi_meaning.specs.Shared.Settle.{settled, settlement, is_unchanged, are_unchanged}
use Rattle.pi_settling.specs.Settle.{settlement as settlement_of_goal, stable_state, passes, runs_of}
use Rattle.pi_settling.specs.Settled.{loaded}
use Rattle.pi_settling.specs.Load.{count_due, same_domain}
use Rattle.pi_settling.specs.Events.{events_from, variable_events}
use Rattle.pi_settling.specs.Answers.{activations, activations_from}

-- what so many steps do, and the configuration after them
pub record Ran : Type 0 where
  pub events : List (Emitted Solution)
  pub config : Config

abbrev after_event : Emitted Solution → Ran → Ran
after_event e r = record { events = e ∷ r.events; config = r.config }

abbrev go_on : Outcome → Config → (Config → Ran) → Ran
go_on (silently next) c f = f next
go_on (with_tick next) c f = after_event (noted Tick) (f next)
go_on (quietly next) c f = f next
go_on (deeper next) c f = f next
go_on (loading n next) c f = after_event (noted (Load n)) (f next)
go_on (writing text next) c f = after_event (noted (Out text)) (f next)
go_on (answering x next) c f = after_event (answered x) (f next)
go_on (ending e) c f = record { events = []; config = c }

unfoldable pub ran : ℕ → List PredTree → Config → Ran
ran zero preds c = record { events = []; config = c }
ran (suc k) preds c = go_on (step (query_view []) preds [] c) c (ran k preds)

abbrev number_is : ℕ → ℕ → GoalTree
number_is k n = call (codes "=") (var k ∷ int (pos n) ∷ [])

abbrev rule : Bool → GoalTree → GoalTree → ClauseTree
rule back guard body = record { head = pattern (slot 0) no_patterns; guard = guard; back = back; watches = []; body = body; value = None; slots = 1 }

abbrev predicate : List ClauseTree → PredTree
predicate clauses = record { name = codes "p"; arity = 1; function = false; quiet = false; index = None; clauses = clauses }

abbrev of_goal : GoalTree → ℕ → Config
of_goal g slots = start (record { goal = g; helpers = []; names = []; slots = slots })

abbrev pub a_state : List Variable → State
a_state variables = record { variables = variables; constraints = []; agents = []; waiting = [] }

abbrev x_is : ℕ → Emitted Solution
x_is n = answered (record { slots = Some (var 0) ∷ []; state = a_state (bound (int (pos n)) ∷ []) })

-- p(X) ?=> X = 1.  p(X) => X = 2.  Two answers behind one Tick; then the stack is empty.
two-answers :
    ran 20 (predicate (rule true truth (number_is 0 1) ∷ rule false truth (number_is 0 2) ∷ []) ∷ []) (of_goal (call (codes "p") (var 0 ∷ [])) 1)
    ≡ record { events = noted Tick ∷ x_is 1 ∷ x_is 2 ∷ []; config = config failed [] }
unfolding ran step goal_step frame_step try_clauses try_rules newest_open answer_step strict_step fits end_step fail_step raise_step find_pred built_in_predicate built_in_function constraint_goals tests comparing_tests kind_tests writing_predicates other_predicates done_by is_later_predicate later_predicates with_new_variables then alt evaluated evaluated_all matched_in matched_all_in settled settlement is_unchanged are_unchanged settlement_of_goal stable_state passes runs_of loaded count_due same_domain events_from variable_events activations activations_from thrown copy occurrences firsts all_unified unified_for outcome assigned joined in_pairs most_pairs unbound_in cells_of_pairs cells value rounds instance followed followed_for order tree_count first_now unknown_by goal_by_name slots_from in_places each_tree type_error is_predicate has_line solve_calls
two-answers = refl

-- once((X = 1 ; X = 2)): what was left to be tried is gone with the first answer.
once-leaves_nothing :
    (ran 6 [] (of_goal (once (alternatives (goal (number_is 0 1) (goal (number_is 0 2) no_goals)))) 1)).config.stack ≡ []
unfolding ran step goal_step frame_step try_clauses try_rules newest_open answer_step strict_step fits end_step fail_step raise_step find_pred built_in_predicate built_in_function constraint_goals tests comparing_tests kind_tests writing_predicates other_predicates done_by is_later_predicate later_predicates with_new_variables then alt evaluated evaluated_all matched_in matched_all_in settled settlement is_unchanged are_unchanged settlement_of_goal stable_state passes runs_of loaded count_due same_domain events_from variable_events activations activations_from thrown copy occurrences firsts all_unified unified_for outcome assigned joined in_pairs most_pairs unbound_in cells_of_pairs cells value rounds instance followed followed_for order tree_count first_now unknown_by goal_by_name slots_from in_places each_tree type_error is_predicate has_line solve_calls
once-leaves_nothing = refl

-- catch((X = 1 ; throw(e)), e, X = 3): the catch is left and entered again, and its binding is gone.
catch-entered_again :
    ran 30 [] (of_goal (catch (alternatives (goal (number_is 0 1) (goal (call (codes "throw") (atom (codes "e") ∷ [])) no_goals))) (atom (codes "e")) (number_is 0 3)) 1)
    ≡ record { events = x_is 1 ∷ x_is 3 ∷ []; config = config failed [] }
unfolding ran step goal_step frame_step try_clauses try_rules newest_open answer_step strict_step fits end_step fail_step raise_step find_pred built_in_predicate built_in_function constraint_goals tests comparing_tests kind_tests writing_predicates other_predicates done_by is_later_predicate later_predicates with_new_variables then alt evaluated evaluated_all matched_in matched_all_in settled settlement is_unchanged are_unchanged settlement_of_goal stable_state passes runs_of loaded count_due same_domain events_from variable_events activations activations_from thrown copy occurrences firsts all_unified unified_for outcome assigned joined in_pairs most_pairs unbound_in cells_of_pairs cells value rounds instance followed followed_for order tree_count first_now unknown_by goal_by_name slots_from in_places each_tree type_error is_predicate has_line solve_calls
catch-entered_again = refl

-- catch((true ; true), e, true), throw(e): what is raised behind a catch that was left ends the run.
raise-behind_catch :
    ran 30 [] (of_goal (seq (goal (catch (alternatives (goal truth (goal truth no_goals))) (atom (codes "e")) truth) (goal (call (codes "throw") (atom (codes "e") ∷ [])) no_goals))) 0)
    ≡ record { events = []; config = config (raising (atom (codes "e"))) [] }
unfolding ran step goal_step frame_step try_clauses try_rules newest_open answer_step strict_step fits end_step fail_step raise_step find_pred built_in_predicate built_in_function constraint_goals tests comparing_tests kind_tests writing_predicates other_predicates done_by is_later_predicate later_predicates with_new_variables then alt evaluated evaluated_all matched_in matched_all_in settled settlement is_unchanged are_unchanged settlement_of_goal stable_state passes runs_of loaded count_due same_domain events_from variable_events activations activations_from thrown copy occurrences firsts all_unified unified_for outcome assigned joined in_pairs most_pairs unbound_in cells_of_pairs cells value rounds instance followed followed_for order tree_count first_now unknown_by goal_by_name slots_from in_places each_tree type_error is_predicate has_line solve_calls
raise-behind_catch = refl

-- ---- `call`

abbrev called : List Tree → GoalTree
called args = call (codes "call") args

abbrev an_equation : ℕ → Tree
an_equation n = comp (codes "=") (tree (var 0) (tree (int (pos n)) no_trees))

abbrev of_names : List ℕ → Tree
of_names name = comp (codes "unknown_name") (tree (atom name) (tree (int (pos 0)) no_trees))

-- call(true): one answer, with no Tick
call-atom : ran 10 [] (of_goal (called (atom (codes "true") ∷ [])) 0) ≡ record { events = answered (record { slots = []; state = a_state [] }) ∷ []; config = config failed [] }
unfolding ran step goal_step frame_step try_clauses try_rules newest_open answer_step strict_step fits end_step fail_step raise_step find_pred built_in_predicate built_in_function constraint_goals tests comparing_tests kind_tests writing_predicates other_predicates done_by is_later_predicate later_predicates with_new_variables then alt evaluated evaluated_all matched_in matched_all_in settled settlement is_unchanged are_unchanged settlement_of_goal stable_state passes runs_of loaded count_due same_domain events_from variable_events activations activations_from thrown copy occurrences firsts all_unified unified_for outcome assigned joined in_pairs most_pairs unbound_in cells_of_pairs cells value rounds instance followed followed_for order tree_count first_now unknown_by goal_by_name slots_from in_places each_tree type_error is_predicate has_line solve_calls
call-atom = refl

-- call('='(X), 1): the arguments of `call` stand behind those of the compound. X is new before that.
call-more :
    ran 10 [] (of_goal (called (comp (codes "=") (tree (var 0) no_trees) ∷ int (pos 1) ∷ [])) 1)
    ≡ record { events = x_is 1 ∷ []; config = config failed [] }
unfolding ran step goal_step frame_step try_clauses try_rules newest_open answer_step strict_step fits end_step fail_step raise_step find_pred built_in_predicate built_in_function constraint_goals tests comparing_tests kind_tests writing_predicates other_predicates done_by is_later_predicate later_predicates with_new_variables then alt evaluated evaluated_all matched_in matched_all_in settled settlement is_unchanged are_unchanged settlement_of_goal stable_state passes runs_of loaded count_due same_domain events_from variable_events activations activations_from thrown copy occurrences firsts all_unified unified_for outcome assigned joined in_pairs most_pairs unbound_in cells_of_pairs cells value rounds instance followed followed_for order tree_count first_now unknown_by goal_by_name slots_from in_places each_tree type_error is_predicate has_line solve_calls
call-more = refl

-- p(X) => X = 1, by call(p, X): its Tick is that of p
call-predicate :
    ran 20 (predicate (rule false truth (number_is 0 1) ∷ []) ∷ []) (of_goal (called (atom (codes "p") ∷ var 0 ∷ [])) 1)
    ≡ record { events = noted Tick ∷ x_is 1 ∷ []; config = config failed [] }
unfolding ran step goal_step frame_step try_clauses try_rules newest_open answer_step strict_step fits end_step fail_step raise_step find_pred built_in_predicate built_in_function constraint_goals tests comparing_tests kind_tests writing_predicates other_predicates done_by is_later_predicate later_predicates with_new_variables then alt evaluated evaluated_all matched_in matched_all_in settled settlement is_unchanged are_unchanged settlement_of_goal stable_state passes runs_of loaded count_due same_domain events_from variable_events activations activations_from thrown copy occurrences firsts all_unified unified_for outcome assigned joined in_pairs most_pairs unbound_in cells_of_pairs cells value rounds instance followed followed_for order tree_count first_now unknown_by goal_by_name slots_from in_places each_tree type_error is_predicate has_line solve_calls
call-predicate = refl

-- call(1) and call(q): what can't be called, and what isn't known
call-integer :
    ran 10 [] (of_goal (called (int (pos 1) ∷ [])) 0)
    ≡ record { events = []; config = config (raising (comp (codes "type_error") (tree (atom (codes "callable")) (tree (int (pos 1)) no_trees)))) [] }
unfolding ran step goal_step frame_step try_clauses try_rules newest_open answer_step strict_step fits end_step fail_step raise_step find_pred built_in_predicate built_in_function constraint_goals tests comparing_tests kind_tests writing_predicates other_predicates done_by is_later_predicate later_predicates with_new_variables then alt evaluated evaluated_all matched_in matched_all_in settled settlement is_unchanged are_unchanged settlement_of_goal stable_state passes runs_of loaded count_due same_domain events_from variable_events activations activations_from thrown copy occurrences firsts all_unified unified_for outcome assigned joined in_pairs most_pairs unbound_in cells_of_pairs cells value rounds instance followed followed_for order tree_count first_now unknown_by goal_by_name slots_from in_places each_tree type_error is_predicate has_line solve_calls
call-integer = refl

call-unknown : ran 10 [] (of_goal (called (atom (codes "q") ∷ [])) 0) ≡ record { events = []; config = config (raising (of_names (codes "q"))) [] }
unfolding ran step goal_step frame_step try_clauses try_rules newest_open answer_step strict_step fits end_step fail_step raise_step find_pred built_in_predicate built_in_function constraint_goals tests comparing_tests kind_tests writing_predicates other_predicates done_by is_later_predicate later_predicates with_new_variables then alt evaluated evaluated_all matched_in matched_all_in settled settlement is_unchanged are_unchanged settlement_of_goal stable_state passes runs_of loaded count_due same_domain events_from variable_events activations activations_from thrown copy occurrences firsts all_unified unified_for outcome assigned joined in_pairs most_pairs unbound_in cells_of_pairs cells value rounds instance followed followed_for order tree_count first_now unknown_by goal_by_name slots_from in_places each_tree type_error is_predicate has_line solve_calls
call-unknown = refl

-- call(plan, s, 1, P), where there is no final/1
call-planner :
    ran 10 [] (of_goal (called (atom (codes "plan") ∷ atom (codes "s") ∷ int (pos 1) ∷ var 0 ∷ [])) 1)
    ≡ record { events = []; config = config (raising (comp (codes "unknown_name") (tree (atom (codes "final")) (tree (int (pos 1)) no_trees)))) [] }
unfolding ran step goal_step frame_step try_clauses try_rules newest_open answer_step strict_step fits end_step fail_step raise_step find_pred built_in_predicate built_in_function constraint_goals tests comparing_tests kind_tests writing_predicates other_predicates done_by is_later_predicate later_predicates with_new_variables then alt evaluated evaluated_all matched_in matched_all_in settled settlement is_unchanged are_unchanged settlement_of_goal stable_state passes runs_of loaded count_due same_domain events_from variable_events activations activations_from thrown copy occurrences firsts all_unified unified_for outcome assigned joined in_pairs most_pairs unbound_in cells_of_pairs cells value rounds instance followed followed_for order tree_count first_now unknown_by goal_by_name slots_from in_places each_tree type_error is_predicate has_line solve_calls
call-planner = refl

-- call(catch, throw(e), e, X = 3): a Tick, and then what `catch` does with what is called
call-catch :
    ran 30 [] (of_goal (called (atom (codes "catch") ∷ comp (codes "throw") (tree (atom (codes "e")) no_trees) ∷ atom (codes "e") ∷ an_equation 3 ∷ [])) 1)
    ≡ record { events = noted Tick ∷ x_is 3 ∷ []; config = config failed [] }
unfolding ran step goal_step frame_step try_clauses try_rules newest_open answer_step strict_step fits end_step fail_step raise_step find_pred built_in_predicate built_in_function constraint_goals tests comparing_tests kind_tests writing_predicates other_predicates done_by is_later_predicate later_predicates with_new_variables then alt evaluated evaluated_all matched_in matched_all_in settled settlement is_unchanged are_unchanged settlement_of_goal stable_state passes runs_of loaded count_due same_domain events_from variable_events activations activations_from thrown copy occurrences firsts all_unified unified_for outcome assigned joined in_pairs most_pairs unbound_in cells_of_pairs cells value rounds instance followed followed_for order tree_count first_now unknown_by goal_by_name slots_from in_places each_tree type_error is_predicate has_line solve_calls
call-catch = refl

-- call(call, '='(X), 1): a Tick, and then what is called
call-again :
    ran 30 [] (of_goal (called (atom (codes "call") ∷ comp (codes "=") (tree (var 0) no_trees) ∷ int (pos 1) ∷ [])) 1)
    ≡ record { events = noted Tick ∷ x_is 1 ∷ []; config = config failed [] }
unfolding ran step goal_step frame_step try_clauses try_rules newest_open answer_step strict_step fits end_step fail_step raise_step find_pred built_in_predicate built_in_function constraint_goals tests comparing_tests kind_tests writing_predicates other_predicates done_by is_later_predicate later_predicates with_new_variables then alt evaluated evaluated_all matched_in matched_all_in settled settlement is_unchanged are_unchanged settlement_of_goal stable_state passes runs_of loaded count_due same_domain events_from variable_events activations activations_from thrown copy occurrences firsts all_unified unified_for outcome assigned joined in_pairs most_pairs unbound_in cells_of_pairs cells value rounds instance followed followed_for order tree_count first_now unknown_by goal_by_name slots_from in_places each_tree type_error is_predicate has_line solve_calls
call-again = refl

-- X = call, call(X, X): a Tick, and then `call` with no arguments, which isn't known
call-bare :
    ran 30 [] (of_goal (seq (goal (call (codes "=") (var 0 ∷ atom (codes "call") ∷ [])) (goal (called (var 0 ∷ var 0 ∷ [])) no_goals))) 1)
    ≡ record { events = noted Tick ∷ []; config = config (raising (of_names (codes "call"))) [] }
unfolding ran step goal_step frame_step try_clauses try_rules newest_open answer_step strict_step fits end_step fail_step raise_step find_pred built_in_predicate built_in_function constraint_goals tests comparing_tests kind_tests writing_predicates other_predicates done_by is_later_predicate later_predicates with_new_variables then alt evaluated evaluated_all matched_in matched_all_in settled settlement is_unchanged are_unchanged settlement_of_goal stable_state passes runs_of loaded count_due same_domain events_from variable_events activations activations_from thrown copy occurrences firsts all_unified unified_for outcome assigned joined in_pairs most_pairs unbound_in cells_of_pairs cells value rounds instance followed followed_for order tree_count first_now unknown_by goal_by_name slots_from in_places each_tree type_error is_predicate has_line solve_calls
call-bare = refl

-- ---- facts

-- e(1). e(2).
abbrev number : ℕ → ClauseTree
number n = record { head = pattern (exact_int (pos n)) no_patterns; guard = truth; back = false; watches = []; body = truth; value = None; slots = 0 }

abbrev numbers : Mode → List PredTree
numbers mode = record { name = codes "e"; arity = 1; function = false; quiet = false; index = Some ((mode ∷ []) ∷ []); clauses = number 1 ∷ number 2 ∷ [] } ∷ []

-- e(X) where `index (-)` stands before the facts: both answers behind one Tick
facts-in_order : ran 20 (numbers Mode.Minus) (of_goal (call (codes "e") (var 0 ∷ [])) 1) ≡ record { events = noted Tick ∷ x_is 1 ∷ x_is 2 ∷ []; config = config failed [] }
unfolding ran step goal_step frame_step try_clauses try_facts from_unifying fits_modes fact_term fact_terms newest_open answer_step strict_step fits end_step fail_step raise_step find_pred built_in_predicate built_in_function constraint_goals tests comparing_tests kind_tests writing_predicates other_predicates done_by is_later_predicate later_predicates with_new_variables then alt evaluated evaluated_all matched_in matched_all_in settled settlement is_unchanged are_unchanged settlement_of_goal stable_state passes runs_of loaded count_due same_domain events_from variable_events activations activations_from thrown copy occurrences firsts all_unified unified_for outcome assigned joined in_pairs most_pairs unbound_in cells_of_pairs cells value rounds instance followed followed_for order tree_count first_now unknown_by goal_by_name slots_from in_places each_tree type_error is_predicate has_line solve_calls
facts-in_order = refl

-- the last one that unifies leaves nothing
fact-leaves_nothing : (ran 3 (numbers Mode.Plus) (of_goal (call (codes "e") (int (pos 1) ∷ [])) 0)).config ≡ config (going no_goals [] (a_state []) []) []
unfolding ran step goal_step frame_step try_clauses try_facts from_unifying fits_modes fact_term fact_terms newest_open answer_step strict_step fits end_step fail_step raise_step find_pred built_in_predicate built_in_function constraint_goals tests comparing_tests kind_tests writing_predicates other_predicates done_by is_later_predicate later_predicates with_new_variables then alt evaluated evaluated_all matched_in matched_all_in settled settlement is_unchanged are_unchanged settlement_of_goal stable_state passes runs_of loaded count_due same_domain events_from variable_events activations activations_from thrown copy occurrences firsts all_unified unified_for outcome assigned joined in_pairs most_pairs unbound_in cells_of_pairs cells value rounds instance followed followed_for order tree_count first_now unknown_by goal_by_name slots_from in_places each_tree type_error is_predicate has_line solve_calls
fact-leaves_nothing = refl

-- e(X) where `index (+)` stands before the facts: a call that no mode list fits fails behind its Tick
no-mode_fits : ran 20 (numbers Mode.Plus) (of_goal (call (codes "e") (var 0 ∷ [])) 1) ≡ record { events = noted Tick ∷ []; config = config failed [] }
unfolding ran step goal_step frame_step try_clauses try_facts from_unifying fits_modes fact_term fact_terms newest_open answer_step strict_step fits end_step fail_step raise_step find_pred built_in_predicate built_in_function constraint_goals tests comparing_tests kind_tests writing_predicates other_predicates done_by is_later_predicate later_predicates with_new_variables then alt evaluated evaluated_all matched_in matched_all_in settled settlement is_unchanged are_unchanged settlement_of_goal stable_state passes runs_of loaded count_due same_domain events_from variable_events activations activations_from thrown copy occurrences firsts all_unified unified_for outcome assigned joined in_pairs most_pairs unbound_in cells_of_pairs cells value rounds instance followed followed_for order tree_count first_now unknown_by goal_by_name slots_from in_places each_tree type_error is_predicate has_line solve_calls
no-mode_fits = refl
