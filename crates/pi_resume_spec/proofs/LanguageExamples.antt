-- Small programs and goals with their paths, and runs that are resumed, worked out.
use Rattle.std.specs.Prelude.{◌≡◌, ℕ, pos, Bool, true, false, List, [], ◌∷◌, Some, None, codes, refl}
use Rattle.pi_traces.specs.Trace.{end, note, ans, Done, Tick, then, alt, first}
use Rattle.pi_meaning.specs.CoreMeaning.Run.{Solution, told}
use Rattle.pi_meaning.specs.Shared.Calls.{function_given}
use Rattle.pi_meaning.specs.Shared.Names.{later_predicates, is_later_predicate}
use Rattle.pi_terms.specs.Tree.{Tree, var, int, atom, comp, no_trees, tree, tree_count, cells}
use Rattle.pi_terms.specs.Order.{order}
use Rattle.pi_terms.specs.Variables.{occurrences, firsts}
use Rattle.pi_terms.specs.Substitution.{instance}
use Rattle.pi_terms.specs.Copy.{copy}
use Rattle.pi_constraints.specs.Value.{rounds, value}
use Rattle.pi_constraints.specs.State.{followed_for, followed}
use Rattle.pi_constraints.specs.Unify.{in_pairs, assigned, joined, outcome, unified_for, unbound_in, cells_of_pairs, most_pairs, all_unified}
use Rattle.pi_terms.specs.PatternTree.{PatternTree, slot, no_patterns, pattern}
use Rattle.pi_core.specs.GoalTree.{GoalTree, truth, call, once, catch, no_goals, goal}
use Rattle.pi_traces.specs.Control.{negated, chosen, collected, counted, caught}
use Rattle.pi_settling.specs.Settle.{settlement as settlement_of_goal, stable_state, passes, runs_of}
use Rattle.pi_settling.specs.Settled.{loaded}
use Rattle.pi_settling.specs.Load.{count_due, same_domain}
use Rattle.pi_settling.specs.Events.{events_from, variable_events}
use Rattle.pi_settling.specs.Answers.{activations, activations_from}
use Rattle.pi_meaning.specs.Shared.Settle.{settled, settlement, is_unchanged, are_unchanged}
use Rattle.pi_meaning.specs.Shared.Drain.{drained}
use Rattle.pi_constraints.specs.Evaluation.{evaluated, evaluated_all, with_new_variables}
use Rattle.pi_constraints.specs.HeadMatch.{matched_in, matched_all_in}
use Rattle.pi_effects.specs.Exception.{thrown, exception_with}
use Rattle.pi_effects.specs.Rows.{done_by, has_line}
use Rattle.pi_syntax.specs.PrintTerm.{written}
use Rattle.pi_syntax.specs.PrintAtom.{atom_text}
use Rattle.pi_effects.specs.Items.{each_tree}
use Rattle.pi_effects.specs.Value.{value_of}
use Rattle.pi_effects.specs.Comparing.{comparing_tests}
use Rattle.pi_effects.specs.Kinds.{kind_tests}
use Rattle.pi_effects.specs.Texts.{text_functions, writing_predicates}
use Rattle.pi_effects.specs.Integers.{integer_functions}
use Rattle.pi_effects.specs.Collections.{collection_functions}
use Rattle.pi_effects.specs.Sorting.{sorting_functions}
use Rattle.pi_effects.specs.Indexing.{index_functions}
use Rattle.pi_effects.specs.Ranges.{range_functions}
use Rattle.pi_effects.specs.Naming.{naming_functions}
use Rattle.pi_effects.specs.Making.{making_functions}
use Rattle.pi_effects.specs.BuiltIns.{is_predicate, built_in_predicate, built_in_function, tests, other_predicates, reading_functions}
use Rattle.pi_meaning.specs.Shared.Raise.{raised_with}
use Rattle.pi_meaning.specs.Shared.View.{query_view}
use Rattle.pi_core.specs.CoreTree.{ClauseTree, PredTree, QueryTree, find_pred}
use Rattle.pi_terms.specs.ListCopies.{list_of_copies, new_in_all}
use Rattle.pi_resume_spec.specs.Ways.{Ways, choice_from}
use Rattle.pi_resume_spec.specs.Resumed.{Passing, Following, a_tick, on_way, reached, bad, rules_ways, rules_taken, with_rest, follows_then, taken_from, to_answer, on_first, to_exception, with_handler, resumed}
use Rattle.pi_resume_spec.specs.Searches.{draining, strictly}
use Rattle.pi_resume_spec.specs.ByName.{built_searches, all_names, predicate_given, predicate_called, called_at_level, first_called}
use Rattle.pi_resume_spec.specs.Goals.{search, calling, applying, collecting, counting, catching}
use Rattle.pi_resume_spec.specs.Rules.{pred_search, rule_searches, quiet_search, searches_of, quiet_level, search_level}
use Rattle.pi_resume_spec.specs.Queries.{query_search, resumed_query}
use Rattle.pi_core.specs.declared.core_program.SlotWatch.{SlotWatch}
use Rattle.pi_syntax.specs.declared.program.Mode.{Mode}
use Rattle.pi_terms.specs.PatternTree.{exact_int, exact_atom, compound, PatternTrees}
use Rattle.pi_core.specs.GoalTree.{fail, tick, apply, seq, if_else, not, collect, count}
use Rattle.pi_traces.specs.Trace.{Note, Out, Deep, End}
use Rattle.pi_meaning.specs.CoreMeaning.Facts.{fits_modes, fact_term, fact_terms}
use Rattle.pi_meaning.specs.CoreMeaning.Rules.{watch_trees}
use Rattle.pi_meaning.specs.CoreMeaning.Meaning.{slot_value}
use Rattle.pi_resume_spec.specs.Resumed.{cut_off}

data Step : Type 0 where
  way : Passing → Step
  saw : Note → Step
  here : List ℕ → Tree → Step
  at : List ℕ → Tree → Step
  ends : End → Step
  left_over : List ℕ → Step
  bad_path : Step

unfoldable steps_of : Ways Solution → List Step
steps_of (end e) = ends e ∷ []
steps_of (note n t) = saw n ∷ steps_of t
steps_of (ans w t) = at w.path (slot_value 0 w.answer.slots w.answer.state) ∷ steps_of t

unfoldable run_of : Following Solution → List Step
run_of (on_way n f) = way n ∷ run_of f
run_of (reached made x left later) = here made (slot_value 0 x.slots x.state) ∷ steps_of later
run_of (cut_off e) = ends e ∷ []
run_of bad = bad_path ∷ []

abbrev pub query : GoalTree → ℕ → QueryTree
query g slots = record { goal = g; helpers = []; names = []; slots = slots }

unfoldable trace : List PredTree → GoalTree → ℕ → ℕ → List Step
unfolding steps_of query_search search draining strictly calling applying collecting counting catching pred_search rule_searches quiet_search searches_of quiet_level search_level predicate_given predicate_called called_at_level first_called rules_ways choice_from rules_taken with_rest follows_then taken_from to_answer on_first to_exception with_handler resumed later_predicates is_later_predicate told find_pred built_in_predicate built_in_function tests comparing_tests kind_tests writing_predicates other_predicates reading_functions integer_functions collection_functions sorting_functions index_functions range_functions naming_functions text_functions making_functions done_by list_of_copies new_in_all with_new_variables then alt first chosen negated caught collected counted evaluated evaluated_all matched_in matched_all_in drained settled settlement is_unchanged are_unchanged settlement_of_goal stable_state passes runs_of loaded count_due same_domain events_from variable_events activations activations_from thrown exception_with raised_with copy occurrences firsts all_unified unified_for outcome assigned joined in_pairs most_pairs unbound_in cells_of_pairs cells value rounds instance followed followed_for order tree_count fits_modes fact_term fact_terms watch_trees function_given value_of written atom_text each_tree is_predicate has_line
trace program g slots d = steps_of (query_search (all_names (query_view []) built_searches program) program (query g slots) d).ways

unfoldable from : List PredTree → GoalTree → ℕ → ℕ → List ℕ → List Step
unfolding steps_of run_of query_search search draining strictly calling applying collecting counting catching pred_search rule_searches quiet_search searches_of quiet_level search_level predicate_given predicate_called called_at_level first_called rules_ways choice_from rules_taken with_rest follows_then taken_from to_answer on_first to_exception with_handler resumed later_predicates is_later_predicate told find_pred built_in_predicate built_in_function tests comparing_tests kind_tests writing_predicates other_predicates reading_functions integer_functions collection_functions sorting_functions index_functions range_functions naming_functions text_functions making_functions done_by list_of_copies new_in_all with_new_variables then alt first chosen negated caught collected counted evaluated evaluated_all matched_in matched_all_in drained settled settlement is_unchanged are_unchanged settlement_of_goal stable_state passes runs_of loaded count_due same_domain events_from variable_events activations activations_from thrown exception_with raised_with copy occurrences firsts all_unified unified_for outcome assigned joined in_pairs most_pairs unbound_in cells_of_pairs cells value rounds instance followed followed_for order tree_count fits_modes fact_term fact_terms watch_trees function_given value_of written atom_text each_tree is_predicate has_line
from program g slots d path = run_of (resumed_query (all_names (query_view []) built_searches program) program (query g slots) d path)

abbrev pub equal : Tree → Tree → GoalTree
equal a b = call (codes "=") (a ∷ b ∷ [])

abbrev pub n : ℕ → Tree
n i = int (pos i)

abbrev pub is : ℕ → ℕ → GoalTree
is k i = equal (var k) (n i)

abbrev pub patterns : List PatternTree → PatternTrees
patterns [] = no_patterns
patterns (p ∷ ps) = pattern p (patterns ps)

abbrev pub rule : List PatternTree → GoalTree → Bool → GoalTree → ℕ → ClauseTree
rule head guard back body slots = record { head = patterns head; guard = guard; back = back; watches = []; body = body; value = None; slots = slots }

abbrev pub predicate : List ℕ → ℕ → List ClauseTree → PredTree
predicate name k clauses = record { name = name; arity = k; function = false; quiet = false; index = None; clauses = clauses }

abbrev pub goals : List GoalTree → Rattle.pi_core.specs.GoalTree.GoalTrees
goals [] = no_goals
goals (g ∷ gs) = goal g (goals gs)

abbrev alternatives_of : List GoalTree → GoalTree
alternatives_of gs = Rattle.pi_core.specs.GoalTree.alternatives (goals gs)

abbrev pub cell : PatternTree → PatternTree → PatternTree
cell x rest = compound (codes "[|]") (pattern x (pattern rest no_patterns))

abbrev pub list_of : List Tree → Tree
list_of [] = atom (codes "[]")
list_of (t ∷ ts) = comp (codes "[|]") (tree t (tree (list_of ts) no_trees))

abbrev pub a : Tree
a = atom (codes "a")

abbrev pub b : Tree
b = atom (codes "b")

abbrev pub c : Tree
c = atom (codes "c")

-- member(X,[Y|_]) ?=> X = Y.  member(X,[_|L]) => member(X,L).
abbrev pub member : List PredTree
member = predicate (codes "member") 2
    (rule (slot 0 ∷ cell (slot 1) (slot 2) ∷ []) truth true (equal (var 0) (var 1)) 3
    ∷ rule (slot 0 ∷ cell (slot 1) (slot 2) ∷ []) truth false (call (codes "member") (var 0 ∷ var 2 ∷ [])) 3 ∷ []) ∷ []

abbrev pub member_goal : GoalTree
member_goal = call (codes "member") (var 0 ∷ list_of (a ∷ b ∷ c ∷ []) ∷ [])

-- between(L,U,X), L =< U ?=> X = L.  between(L,U,X), L < U => between(L+1,U,X).
abbrev between : List PredTree
between = predicate (codes "between") 3
    (rule (slot 0 ∷ slot 1 ∷ slot 2 ∷ []) (call (codes "=<") (var 0 ∷ var 1 ∷ [])) true (equal (var 2) (var 0)) 3
    ∷ rule (slot 0 ∷ slot 1 ∷ slot 2 ∷ []) (call (codes "<") (var 0 ∷ var 1 ∷ [])) false
    (seq (goals (apply (codes "+") (var 0 ∷ n 1 ∷ []) 3 ∷ call (codes "between") (var 3 ∷ var 1 ∷ var 2 ∷ []) ∷ []))) 4 ∷ []) ∷ []

abbrev count_goal : ℕ → GoalTree
count_goal k = alternatives_of (seq (goals (count (call (codes "between") (n 1 ∷ n k ∷ var 1 ∷ [])) 2 ∷ call (codes ">") (var 2 ∷ n 0 ∷ []) ∷ is 0 1 ∷ [])) ∷ is 0 2 ∷ is 0 3 ∷ [])

rows :
    (trace [] truth 1 0 ≡ at [] (var 0) ∷ ends Done ∷ [])
    × (from [] truth 1 0 [] ≡ here [] (var 0) ∷ ends Done ∷ [])
    × (from [] truth 1 0 (1 ∷ []) ≡ bad_path ∷ [])
    × (from member member_goal 1 5 (2 ∷ 1 ∷ []) ≡ way a_tick ∷ way a_tick ∷ here (2 ∷ 1 ∷ []) b ∷ saw Tick ∷ at (2 ∷ 2 ∷ 1 ∷ []) c ∷ saw Tick ∷ ends Done ∷ [])
    × (from between (count_goal 1000) 3 2 (2 ∷ []) ≡ here (2 ∷ []) (n 2) ∷ at (3 ∷ []) (n 3) ∷ ends Done ∷ [])
    × (trace between (count_goal 2) 3 5 ≡ saw Tick ∷ saw Tick ∷ at (1 ∷ []) (n 1) ∷ at (2 ∷ []) (n 2) ∷ at (3 ∷ []) (n 3) ∷ ends Done ∷ [])
unfolding trace from
rows = (refl, refl, refl, refl, refl, refl)

-- p(X) ?=> X = 1.  p(X) => X = 2.
abbrev pub p : List PredTree
p = predicate (codes "p") 1 (rule (slot 0 ∷ []) truth true (is 0 1) 1 ∷ rule (slot 0 ∷ []) truth false (is 0 2) 1 ∷ []) ∷ []

abbrev pub p_of : Tree → GoalTree
p_of t = call (codes "p") (t ∷ [])

-- q() => true. ; a rule whose condition ticks and writes: r(X), q, print(a) ?=> X = 1.  r(X) => X = 2.
abbrev q : PredTree
q = predicate (codes "q") 0 (rule [] truth false truth 0 ∷ [])

abbrev condition : GoalTree
condition = seq (goals (call (codes "q") [] ∷ call (codes "print") (a ∷ []) ∷ []))

abbrev r : Bool → List PredTree
r back = predicate (codes "r") 1 (rule (slot 0 ∷ []) condition back (is 0 1) 1 ∷ rule (slot 0 ∷ []) truth false (is 0 2) 1 ∷ []) ∷ q ∷ []

abbrev r_goal : GoalTree
r_goal = call (codes "r") (var 0 ∷ [])

-- a condition that raises before k
abbrev raising : List PredTree
raising = predicate (codes "r") 1 (rule (slot 0 ∷ []) (call (codes "throw") (a ∷ [])) true (is 0 1) 1 ∷ rule (slot 0 ∷ []) truth false (is 0 2) 1 ∷ []) ∷ []

-- facts: index (-) e(1). e(a). e(2).
abbrev fact : PatternTree → ClauseTree
fact t = rule (t ∷ []) truth false truth 0

abbrev e : List PredTree
e = record { name = codes "e"; arity = 1; function = false; quiet = false; index = Some ((Mode.Minus ∷ []) ∷ []); clauses = fact (exact_int (pos 1)) ∷ fact (exact_atom (codes "a")) ∷ fact (exact_int (pos 2)) ∷ [] } ∷ []

abbrev e_goal : Tree → GoalTree
e_goal t = call (codes "e") (t ∷ [])

-- an action rule: w(X), {ins(X)} => fail.
abbrev w : List PredTree
w = predicate (codes "w") 1 (record { head = patterns (slot 0 ∷ []); guard = truth; back = false; watches = SlotWatch.Ins 0 ∷ []; body = fail; value = None; slots = 1 } ∷ []) ∷ []

-- quiet: turn([]) => true. turn([_|L]) => tick, (true ; true), turn(L)
abbrev turn : List PredTree
turn = record {
  name = codes "turn";
  arity = 2;
  function = false;
  quiet = true;
  index = None;
  clauses =
      rule (exact_atom (codes "[]") ∷ slot 0 ∷ []) truth false truth 1
      ∷ rule (cell (slot 0) (slot 1) ∷ slot 2 ∷ []) truth false (seq (goals (tick ∷ alternatives_of (truth ∷ is 2 7 ∷ []) ∷ call (codes "turn") (var 1 ∷ var 2 ∷ []) ∷ []))) 3 ∷ [];
} ∷ []

forms-rules :
    (trace p (p_of (var 0)) 1 1 ≡ saw Tick ∷ at (1 ∷ []) (n 1) ∷ at (2 ∷ []) (n 2) ∷ ends Done ∷ [])
    × (from p (p_of (var 0)) 1 1 [] ≡ way a_tick ∷ bad_path ∷ [])
    × (from p (p_of (var 0)) 1 0 [] ≡ ends Deep ∷ [])
    × (trace (r true) r_goal 1 3 ≡ saw Tick ∷ saw Tick ∷ saw (Out (codes "a")) ∷ at (1 ∷ []) (n 1) ∷ at (2 ∷ []) (n 2) ∷ ends Done ∷ [])
    × (from (r true) r_goal 1 3 (1 ∷ []) ≡ way a_tick ∷ way a_tick ∷ here (1 ∷ []) (n 1) ∷ at (2 ∷ []) (n 2) ∷ ends Done ∷ [])
    × (from (r true) r_goal 1 3 (2 ∷ []) ≡ way a_tick ∷ way a_tick ∷ here (2 ∷ []) (n 2) ∷ ends Done ∷ [])
    × (from (r true) r_goal 1 3 (9 ∷ []) ≡ way a_tick ∷ way a_tick ∷ bad_path ∷ [])
    × (from (r false) r_goal 1 3 (2 ∷ []) ≡ way a_tick ∷ way a_tick ∷ bad_path ∷ [])
    × (from (r false) r_goal 1 3 [] ≡ way a_tick ∷ bad_path ∷ [])
    × (from raising r_goal 1 3 (2 ∷ []) ≡ way a_tick ∷ bad_path ∷ [])
    × (trace e (e_goal (var 0)) 1 1 ≡ saw Tick ∷ at (1 ∷ []) (n 1) ∷ at (2 ∷ []) a ∷ at (3 ∷ []) (n 2) ∷ ends Done ∷ [])
    × (trace e (e_goal (n 2)) 1 1 ≡ saw Tick ∷ at (3 ∷ []) (var 0) ∷ ends Done ∷ [])
    × (from e (e_goal (var 0)) 1 1 (2 ∷ []) ≡ way a_tick ∷ here (2 ∷ []) a ∷ at (3 ∷ []) (n 2) ∷ ends Done ∷ [])
    × (from e (e_goal (n 2)) 1 1 (2 ∷ []) ≡ way a_tick ∷ bad_path ∷ [])
    × (from e (e_goal (n 2)) 1 1 [] ≡ way a_tick ∷ bad_path ∷ [])
    × (trace w (call (codes "w") (var 0 ∷ [])) 1 1 ≡ saw Tick ∷ at (1 ∷ []) (var 0) ∷ ends Done ∷ [])
    × (trace turn (call (codes "turn") (list_of (a ∷ []) ∷ var 0 ∷ [])) 1 3 ≡ saw Tick ∷ at (1 ∷ []) (var 0) ∷ at (2 ∷ []) (n 7) ∷ ends Done ∷ [])
    × (from turn (call (codes "turn") (list_of (a ∷ b ∷ []) ∷ var 0 ∷ [])) 1 3 (1 ∷ 2 ∷ []) ≡ way a_tick ∷ way a_tick ∷ here (1 ∷ 2 ∷ []) (n 7) ∷ saw Tick ∷ at (2 ∷ 1 ∷ []) (n 7) ∷ at (2 ∷ 2 ∷ []) (n 7) ∷ ends Done ∷ [])
unfolding trace from
forms-rules = (refl, refl, refl, refl, refl, refl, refl, refl, refl, refl, refl, refl, refl, refl, refl, refl, refl, refl)

-- catch, and calls by name
abbrev throw : Tree → GoalTree
throw t = call (codes "throw") (t ∷ [])

-- catch((print(a), X = 1 ; p(X), throw(b)), b, (X = 3 ; X = 4))
abbrev caught_goal : GoalTree
caught_goal = catch (alternatives_of (seq (goals (call (codes "print") (a ∷ []) ∷ is 0 1 ∷ [])) ∷ seq (goals (p_of (var 0) ∷ throw b ∷ [])) ∷ [])) b (alternatives_of (is 0 3 ∷ is 0 4 ∷ []))

-- call(catch(p(X),b,true)), call(p,X), not and once and find_all of p
abbrev by_name : GoalTree
by_name = call (codes "call") (comp (codes "catch") (tree (comp (codes "p") (tree (var 0) no_trees)) (tree b (tree (atom (codes "true")) no_trees))) ∷ [])

forms-others :
    (trace p caught_goal 1 3 ≡ saw (Out (codes "a")) ∷ at (1 ∷ 1 ∷ []) (n 1) ∷ saw Tick ∷ at (2 ∷ 1 ∷ []) (n 3) ∷ at (2 ∷ 2 ∷ []) (n 4) ∷ ends Done ∷ [])
    × (from p caught_goal 1 3 [] ≡ bad_path ∷ [])
    × (from p caught_goal 1 3 (1 ∷ []) ≡ bad_path ∷ [])
    × (from p caught_goal 1 3 (2 ∷ []) ≡ way a_tick ∷ bad_path ∷ [])
    × (from p caught_goal 1 3 (1 ∷ 1 ∷ []) ≡ here (1 ∷ 1 ∷ []) (n 1) ∷ saw Tick ∷ at (2 ∷ 1 ∷ []) (n 3) ∷ at (2 ∷ 2 ∷ []) (n 4) ∷ ends Done ∷ [])
    × (from p caught_goal 1 3 (1 ∷ 2 ∷ 1 ∷ []) ≡ way a_tick ∷ bad_path ∷ [])
    × (from p caught_goal 1 3 (2 ∷ 1 ∷ []) ≡ way a_tick ∷ here (2 ∷ 1 ∷ []) (n 3) ∷ at (2 ∷ 2 ∷ []) (n 4) ∷ ends Done ∷ [])
    × (from p caught_goal 1 3 (2 ∷ 2 ∷ []) ≡ way a_tick ∷ here (2 ∷ 2 ∷ []) (n 4) ∷ ends Done ∷ [])
    × (from p caught_goal 1 3 (3 ∷ []) ≡ bad_path ∷ [])
    × (trace p by_name 1 4 ≡ saw Tick ∷ saw Tick ∷ at (1 ∷ 1 ∷ []) (n 1) ∷ at (1 ∷ 2 ∷ []) (n 2) ∷ ends Done ∷ [])
    × (from p by_name 1 4 [] ≡ way a_tick ∷ bad_path ∷ [])
    × (from p by_name 1 4 (1 ∷ []) ≡ way a_tick ∷ way a_tick ∷ bad_path ∷ [])
    × (from p by_name 1 4 (1 ∷ 1 ∷ []) ≡ way a_tick ∷ way a_tick ∷ here (1 ∷ 1 ∷ []) (n 1) ∷ at (1 ∷ 2 ∷ []) (n 2) ∷ ends Done ∷ [])
    × (trace p (call (codes "call") (atom (codes "p") ∷ var 0 ∷ [])) 1 4 ≡ saw Tick ∷ at (1 ∷ []) (n 1) ∷ at (2 ∷ []) (n 2) ∷ ends Done ∷ [])
    × (trace p (once (p_of (var 0))) 1 4 ≡ saw Tick ∷ at [] (n 1) ∷ ends Done ∷ [])
    × (trace p (count (p_of (var 1)) 0) 2 4 ≡ saw Tick ∷ at [] (n 2) ∷ ends Done ∷ [])
    × (from p (count (p_of (var 1)) 0) 2 4 [] ≡ way a_tick ∷ here [] (n 2) ∷ ends Done ∷ [])
    × (trace p (not (seq (goals (p_of (var 0) ∷ fail ∷ [])))) 1 4 ≡ saw Tick ∷ at [] (var 0) ∷ ends Done ∷ [])
    × (trace p (if_else (p_of (var 0)) (alternatives_of (truth ∷ truth ∷ [])) fail) 1 4 ≡ saw Tick ∷ at (1 ∷ []) (n 1) ∷ at (2 ∷ []) (n 1) ∷ ends Done ∷ [])
unfolding trace from
forms-others = (refl, refl, refl, refl, refl, refl, refl, refl, refl, refl, refl, refl, refl, refl, refl, refl, refl, refl, refl)

-- An arrow is no choice. (fail -> X = 1 ; X = 2 ; X = 3) is an `if` whose other side has the branches 1 and 2; in (X = 1 ; fail -> X = 2 ; X = 3 ; X = 4) it is branch 2 of the whole.
abbrev arrow_first : GoalTree
arrow_first = if_else fail (is 0 1) (alternatives_of (is 0 2 ∷ is 0 3 ∷ []))

abbrev arrow_later : GoalTree
arrow_later = alternatives_of (is 0 1 ∷ if_else fail (is 0 2) (alternatives_of (is 0 3 ∷ is 0 4 ∷ [])) ∷ [])

arrows :
    (trace [] arrow_first 1 0 ≡ at (1 ∷ []) (n 2) ∷ at (2 ∷ []) (n 3) ∷ ends Done ∷ [])
    × (from [] arrow_first 1 0 (1 ∷ []) ≡ here (1 ∷ []) (n 2) ∷ at (2 ∷ []) (n 3) ∷ ends Done ∷ [])
    × (from [] arrow_first 1 0 (3 ∷ []) ≡ bad_path ∷ [])
    × (trace [] arrow_later 1 0 ≡ at (1 ∷ []) (n 1) ∷ at (2 ∷ 1 ∷ []) (n 3) ∷ at (2 ∷ 2 ∷ []) (n 4) ∷ ends Done ∷ [])
unfolding trace from
arrows = (refl, refl, refl, refl)
