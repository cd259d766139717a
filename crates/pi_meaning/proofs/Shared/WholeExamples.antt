-- Small programs of the core language with all names of the language, worked through the definitions.
use Rattle.std.proofs.Common.{◌≡◌, ℕ, List, [], ◌∷◌, refl}
use Rattle.std.specs.Prelude.{Bool, true, false, Some, None, pos, codes}
use Rattle.pi_terms.specs.Tree.{Tree, var, int, atom, comp, no_trees, tree, tree_count, cells}
use Rattle.pi_terms.specs.Order.{order}
use Rattle.pi_terms.specs.Variables.{occurrences, firsts}
use Rattle.pi_terms.specs.Substitution.{instance}
use Rattle.pi_terms.specs.Copy.{copy}
use Rattle.pi_terms.specs.ListCopies.{list_of_copies, new_in_all}
use Rattle.pi_terms.specs.PatternTree.{PatternTree, slot, no_patterns, pattern}
use Rattle.pi_constraints.specs.Value.{rounds, value}
use Rattle.pi_constraints.specs.State.{Variable, free, bound, empty_state, followed_for, followed}
use Rattle.pi_constraints.specs.Unify.{in_pairs, assigned, joined, outcome, unified_for, unbound_in, cells_of_pairs, most_pairs, all_unified}
use Rattle.pi_constraints.specs.Evaluation.{evaluated, evaluated_all, with_new_variables}
use Rattle.pi_constraints.specs.HeadMatch.{matched_in, matched_all_in}
use Rattle.pi_core.specs.GoalTree.{GoalTree, truth, call, apply}
use Rattle.pi_core.specs.CoreTree.{ClauseTree, PredTree, QueryTree, find_pred}
use Rattle.pi_effects.specs.Exception.{thrown, exception_with, type_error}
use Rattle.pi_effects.specs.Items.{each_tree}
use Rattle.pi_effects.specs.Rows.{done_by, has_line}
use Rattle.pi_effects.specs.Integers.{integer_functions}
use Rattle.pi_effects.specs.Comparing.{comparing_tests}
use Rattle.pi_effects.specs.Kinds.{kind_tests}
use Rattle.pi_effects.specs.Collections.{collection_functions}
use Rattle.pi_effects.specs.Sorting.{sorting_functions}
use Rattle.pi_effects.specs.Indexing.{index_functions}
use Rattle.pi_effects.specs.Ranges.{range_functions}
use Rattle.pi_effects.specs.Naming.{naming_functions}
use Rattle.pi_effects.specs.Texts.{text_functions, writing_predicates}
use Rattle.pi_effects.specs.Making.{making_functions}
use Rattle.pi_effects.specs.BuiltIns.{reading_functions, built_in_function, tests, other_predicates, built_in_predicate, is_predicate}
use Rattle.pi_traces.specs.Trace.{Trace, end, note, ans, Done, Raise, Deep, Tick, Out, alt, then, first}
use Rattle.pi_traces.specs.Control.{chosen, caught}
use Rattle.pi_meaning.specs.Shared.Drain.{drained}
use Rattle.pi_meaning.specs.Shared.View.{View, query_view, body_view}
use Rattle.pi_meaning.specs.Shared.Raise.{raised_with}
use Rattle.pi_meaning.specs.Shared.Names.{later_predicates, is_later_predicate, is_later_function}
use Rattle.pi_meaning.specs.Shared.Given.{Later}
use Rattle.pi_meaning.specs.Shared.Calls.{predicate_given, predicate_called, function_given, called_at_level, first_called}
use Rattle.pi_meaning.specs.CoreMeaning.Instances.{built_later, whole}
use Rattle.pi_meaning.specs.CoreMeaning.Meaning.{draining, strictly, calling, applying, catching, meaning, meaning_of_all}
use Rattle.pi_meaning.specs.CoreMeaning.Rules.{pred_run, function_run, calls_of, rules, quiet_level, level_at}
use Rattle.pi_meaning.specs.CoreMeaning.Run.{Solution, told, query_trace}
use Rattle.pi_meaning.specs.Shared.Settle.{settled, settlement, is_unchanged, are_unchanged}
use Rattle.pi_settling.specs.Settle.{settlement as settlement_of_goal, stable_state, passes, runs_of}
use Rattle.pi_settling.specs.Settled.{loaded}
use Rattle.pi_settling.specs.Goals.{constraint_goals}
use Rattle.pi_settling.specs.SolveCalls.{solve_calls}
use Rattle.pi_settling.specs.Load.{count_due, same_domain}
use Rattle.pi_settling.specs.Events.{events_from, variable_events}
use Rattle.pi_settling.specs.Answers.{activations, activations_from}

-- later stages that give two answers to each predicate, and a number to each function
abbrev given : Later
given = record { predicate = λ v l name ts s. ans s (ans s (end Done)); function = λ name ts s. ans (record { value = int (pos 5); state = s }) (end Done) }

abbrev rule : PatternTree → Bool → GoalTree → ClauseTree
rule head back body = record { head = pattern head no_patterns; guard = truth; back = back; watches = []; body = body; value = None; slots = 1 }

abbrev predicate : List ℕ → Bool → List ClauseTree → PredTree
predicate name quiet clauses = record { name = name; arity = 1; function = false; quiet = quiet; index = None; clauses = clauses }

-- p(X) => X = 1.  h(X) => X = 1., quiet.  throw(X) => X = 1.
abbrev is_one : ClauseTree
is_one = rule (slot 0) false (call (codes "=") (var 0 ∷ int (pos 1) ∷ []))

abbrev program : List PredTree
program = predicate (codes "p") false (is_one ∷ []) ∷ predicate (codes "h") true (is_one ∷ []) ∷ predicate (codes "throw") false (is_one ∷ []) ∷ []

abbrev query : GoalTree → QueryTree
query g = record { goal = g; helpers = []; names = []; slots = 1 }

unfoldable run_given : Later → View → GoalTree → ℕ → Trace Solution
unfolding query_trace told draining strictly calling applying catching pred_run function_run calls_of level_at quiet_level rules find_pred meaning meaning_of_all list_of_copies new_in_all with_new_variables then alt first chosen caught evaluated evaluated_all matched_in matched_all_in drained settled settlement is_unchanged are_unchanged settlement_of_goal stable_state passes runs_of loaded count_due same_domain events_from variable_events activations activations_from thrown exception_with type_error raised_with copy occurrences firsts all_unified unified_for outcome assigned joined in_pairs most_pairs unbound_in cells_of_pairs cells value rounds instance followed followed_for order tree_count each_tree predicate_given predicate_called function_given called_at_level first_called later_predicates is_later_predicate is_later_function done_by has_line integer_functions comparing_tests kind_tests collection_functions sorting_functions index_functions range_functions naming_functions text_functions writing_predicates making_functions reading_functions built_in_function tests other_predicates built_in_predicate is_predicate
run_given later v g d = query_trace (whole v later program) program (query g) d

abbrev run_under : View → GoalTree → ℕ → Trace Solution
run_under v g d = run_given given v g d

abbrev run : GoalTree → ℕ → Trace Solution
run g d = run_under (query_view []) g d

abbrev call_of : List Tree → GoalTree
call_of args = call (codes "call") args

-- the slot holds this, in a state with these variables
abbrev holds : Tree → List Variable → Solution
holds t variables = record { slots = Some t ∷ []; state = record { variables = variables; constraints = []; agents = []; waiting = [] } }

abbrev nothing : Solution
nothing = record { slots = None ∷ []; state = empty_state }

abbrev one_is : Solution
one_is = holds (var 0) (bound (int (pos 1)) ∷ [])

abbrev unknown : List ℕ → ℕ → Tree
unknown name k = comp (codes "unknown_name") (tree (atom name) (tree (int (pos k)) no_trees))

-- `call` joins arguments and takes one from the depth without a Tick; what it calls is a call as any other, but that a `call` to which it leads counts a Tick
calls-lead_down :
    (run (call_of (atom (codes "p") ∷ var 0 ∷ [])) 2 ≡ note Tick (ans one_is (end Done)))
    × (run (call_of (atom (codes "p") ∷ var 0 ∷ [])) 1 ≡ end Deep)
    × (run (call_of (comp (codes "=") (tree (var 0) no_trees) ∷ int (pos 1) ∷ [])) 1 ≡ ans one_is (end Done))
    × (run (call_of (comp (codes "=") (tree (var 0) no_trees) ∷ int (pos 1) ∷ [])) 0 ≡ end Deep)
    × (run (call_of (atom (codes "call") ∷ atom (codes "p") ∷ var 0 ∷ [])) 3 ≡ note Tick (note Tick (ans one_is (end Done))))
    × (run (call_of (atom (codes "call") ∷ atom (codes "p") ∷ var 0 ∷ [])) 2 ≡ note Tick (end Deep))
unfolding run_given
calls-lead_down = (refl, refl, refl, refl, refl, refl)

-- a quiet predicate is unknown to `call`, as is a name that isn't there and one with another number of arguments; what is no atom and no compound can't be called
calls-are_known :
    (run (call (codes "h") (var 0 ∷ [])) 1 ≡ ans one_is (end Done))
    × (run (call_of (atom (codes "h") ∷ var 0 ∷ [])) 2 ≡ end (Raise (unknown (codes "h") 1)))
    × (run (call_of (atom (codes "p") ∷ [])) 2 ≡ end (Raise (unknown (codes "p") 0)))
    × (run (call_of (int (pos 7) ∷ [])) 2 ≡ end (Raise (comp (codes "type_error") (tree (atom (codes "callable")) (tree (int (pos 7)) no_trees)))))
    × (run (call_of (atom (codes "plan") ∷ atom (codes "a") ∷ var 0 ∷ [])) 2 ≡ end (Raise (unknown (codes "final") 1)))
unfolding run_given
calls-are_known = (refl, refl, refl, refl, refl)

-- `call` of `catch` is the catch of the `call`s of its goals, behind a Tick; arguments of `call` stand behind those of the term
abbrev throwing : Tree
throwing = comp (codes "throw") (tree (atom (codes "e")) no_trees)

catches-call :
    (run (call_of (comp (codes "catch") (tree throwing (tree (var 0) (tree (atom (codes "true")) no_trees))) ∷ [])) 2
    ≡ note Tick (ans (holds (var 0) (bound (atom (codes "e")) ∷ [])) (end Done)))
    × (run (call_of (comp (codes "catch") (tree throwing no_trees) ∷ var 0 ∷ atom (codes "true") ∷ [])) 2 ≡ note Tick (ans (holds (var 0) (bound (atom (codes "e")) ∷ [])) (end Done)))
    × (run (call_of (comp (codes "catch") (tree throwing no_trees) ∷ var 0 ∷ atom (codes "true") ∷ [])) 1 ≡ note Tick (end Deep))
unfolding run_given
catches-call = (refl, refl, refl)

-- a name that is built in is the built-in, also where the program has a predicate of that name; output is none in the body of a planner call
names-are_built_in :
    (run (call (codes "throw") (var 0 ∷ [])) 1 ≡ end (Raise (var 0)))
    × (run (call (codes "nl") []) 0 ≡ note (Out (codes "\n")) (ans nothing (end Done)))
    × (run_under (body_view [] [] 3) (call (codes "nl") []) 1 ≡ end (Raise (atom (codes "output_in_plan"))))
    × (run (apply (codes "arity") (atom (codes "a") ∷ []) 0) 0 ≡ ans (holds (int (pos 0)) []) (end Done))
    × (run (call (codes "fail") []) 0 ≡ end Done)
unfolding run_given
names-are_built_in = (refl, refl, refl, refl, refl)

-- what is left of a planner call's limit, in its bodies
rests-are_told :
    (run_under (body_view [] [] 3) (apply (codes "current_resource") [] 0) 0 ≡ ans (holds (int (pos 3)) []) (end Done))
    × (run (apply (codes "current_resource") [] 0) 0 ≡ end (Raise (atom (codes "no_resource"))))
unfolding run_given
rests-are_told = (refl, refl)

-- what later stages give, also by `call`
stages-give :
    (run (call (codes "all_different") (var 0 ∷ [])) 0 ≡ ans (holds (var 0) (free ∷ [])) (ans (holds (var 0) (free ∷ [])) (end Done)))
    × (run (call_of (atom (codes "all_different") ∷ atom (codes "[]") ∷ [])) 1 ≡ ans nothing (ans nothing (end Done)))
    × (run (apply (codes "fd_min") (var 0 ∷ []) 0) 0 ≡ ans (holds (int (pos 5)) (free ∷ [])) (end Done))
unfolding run_given
stages-give = (refl, refl, refl)

-- what isn't built of later stages is unknown to `call`; the predicates that a planner call wants are told first
stages-lack :
    (run_given built_later (query_view []) (call_of (atom (codes "post_event") ∷ var 0 ∷ var 0 ∷ [])) 1 ≡ end (Raise (unknown (codes "post_event") 2)))
    × (run_given built_later (query_view []) (call_of (atom (codes "plan") ∷ atom (codes "a") ∷ var 0 ∷ [])) 1 ≡ end (Raise (unknown (codes "final") 1)))
unfolding run_given done_by constraint_goals solve_calls
stages-lack = (refl, refl)
