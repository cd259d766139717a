-- The two kinds of built-ins that the core meaning is taken with: all names of the language, for a program, which is what a machine runs; and the tables' alone, of which the law
-- on the states of runs speaks. (A User's Guide to Picat, 'Appendix: Predicates and Functions'; which names are there is own.)
use Rattle.std.specs.Prelude.{ℕ, Bool, false, not, cond, List, Option, Some, None, option_map, unwrap_or}
use Rattle.pi_terms.specs.Tree.{Trees, tree_count}
use Rattle.pi_constraints.specs.State.{State}
use Rattle.pi_core.specs.CoreTree.{PredTree, find_pred}
use Rattle.pi_traces.specs.Trace.{Trace, done}
use Rattle.pi_meaning.specs.Shared.View.{View}
use Rattle.pi_meaning.specs.Shared.Level.{Level}
use Rattle.pi_meaning.specs.Shared.Names.{is_call}
use Rattle.pi_settling.specs.Goals.{constraint_effect}
use Rattle.pi_settling.specs.SolveCalls.{solve_asked}
use Rattle.pi_settling.specs.DomainValues.{domain_function}
use Rattle.pi_meaning.specs.Shared.Builtin.{settled_effect, function_trace, effect, function_effect}
use Rattle.pi_meaning.specs.CoreMeaning.Builtins.{Builtins}
use Rattle.pi_meaning.specs.Shared.Given.{Later, Setting}
use Rattle.pi_meaning.specs.Shared.Solve.{solve_trace}
use Rattle.pi_meaning.specs.Shared.Calls.{predicate_given, function_given, first_called, unknown_name}

-- what the tables of built-ins have
abbrev pub tabled : View → Builtins
tabled v = record { predicate = λ l name ts s. effect v name ts s; function = λ l name ts s. function_effect name ts s }

-- `call` leads to a predicate of the program that isn't quiet
abbrev pub is_called_by_name : Option PredTree → Bool
is_called_by_name None = false
is_called_by_name (Some pred) = not pred.quiet

abbrev pub core_setting : View → Later → List PredTree → Setting
core_setting v later preds = record { view = v; later = later; defines = λ name k. is_called_by_name (find_pred false name k preds) }

-- `call` calls a term, and any other name does what it does by itself
abbrev pub predicate_or_call : Setting → Level → List ℕ → Trees → State → Option (Trace State)
predicate_or_call set l name ts s = cond (is_call name (tree_count ts)) (Some (first_called set l ts s)) (predicate_given set l name ts s)

-- what `solve` does; any other name of a later stage is as unknown to `call` as a name that nothing has
abbrev pub solve_or_unknown : Level → List ℕ → Trees → State → Trace State
solve_or_unknown l name ts s = unwrap_or (option_map (solve_trace l s) (solve_asked name ts s)) (unknown_name name (tree_count ts))

-- What is built of what later stages give: goals of constraints, each settled by itself, functions of domains, and labelling. Events and planner calls aren't there.
abbrev pub built_later : Later
built_later = record {
  predicate = λ v l name ts s. unwrap_or (option_map (settled_effect v s) (constraint_effect name ts s)) (solve_or_unknown l name ts s);
  function = λ name ts s. unwrap_or (option_map function_trace (domain_function name ts s)) done;
}

-- all names of the language, for a program
abbrev pub whole : View → Later → List PredTree → Builtins
whole v later preds = record {
  predicate = λ l name ts s. predicate_or_call (core_setting v later preds) l name ts s;
  function = λ l name ts s. function_given (core_setting v later preds) name ts s;
}
