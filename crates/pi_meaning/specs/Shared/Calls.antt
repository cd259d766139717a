-- Calls by name, of predicates and of functions, with arguments that are evaluated; and `call` (A User's Guide to Picat, 'Predicates and Functions' and 'Higher-Order
-- Predicates'; what is raised and how depth is counted is own). A name that is built in is the built-in. The meaning over names and the core meaning call by the same rules.
use Rattle.std.specs.Prelude.{ℕ, pos, ◌||◌, Bool, cond, List, [], ◌++◌, Option, Some, None, codes, option_map}
use Rattle.std.specs.Option.{option_or}
use Rattle.pi_terms.specs.Tree.{Tree, var, int, atom, comp, Trees, no_trees, tree, trees_of, tree_count}
use Rattle.pi_constraints.specs.State.{State, bindings, followed}
use Rattle.pi_effects.specs.Exception.{type_error}
use Rattle.pi_effects.specs.Items.{each_tree}
use Rattle.pi_effects.specs.BuiltIns.{built_in_predicate, built_in_function, is_predicate}
use Rattle.pi_traces.specs.Trace.{Trace, end, note, Raise, Deep, Tick, done, then}
use Rattle.pi_traces.specs.Control.{caught}
use Rattle.pi_meaning.specs.Shared.Builtin.{settled_effect, function_trace}
use Rattle.pi_meaning.specs.Shared.Level.{Level, lowest, over, Applied, calls_at, or_called, or_applied}
use Rattle.pi_meaning.specs.Shared.Within.{resource_left}
use Rattle.pi_meaning.specs.Shared.Names.{is_later_predicate, is_later_function, is_planner, is_resource, is_catch, is_call}
use Rattle.pi_meaning.specs.Shared.Handling.{handling}
use Rattle.pi_meaning.specs.Shared.Given.{Setting}

-- ---- predicates

-- a built-in does its effect and is settled, where the goal began in the state of the call, behind the evaluation of its arguments
abbrev pub built_in : Setting → List ℕ → Trees → State → Option (Trace State)
built_in set name ts s = option_map (settled_effect set.view s) (built_in_predicate name ts s)

-- what a later stage gives is settled by itself
abbrev pub given_later : Setting → Level → List ℕ → Trees → State → Option (Trace State)
given_later set l name ts s = cond (is_later_predicate name (tree_count ts)) (Some (set.later.predicate set.view l name ts s)) None

-- what a name does as a predicate of the language; None where it is none
unfoldable pub predicate_given : Setting → Level → List ℕ → Trees → State → Option (Trace State)
predicate_given set l name ts s = option_or (built_in set name ts s) (given_later set l name ts s)

-- any other name is called
unfoldable pub predicate_called : Setting → Level → List ℕ → Trees → State → Trace State
predicate_called set l name ts s = or_called (predicate_given set l name ts s) l name ts s

-- ---- functions

abbrev pub function_later : Setting → List ℕ → Trees → State → Option (Trace Applied)
function_later set name ts s =
    cond (is_resource name (tree_count ts)) (Some (resource_left set.view.within s))
    (cond (is_later_function name (tree_count ts)) (Some (set.later.function name ts s)) None)

-- what a name does as a function of the language; None where it is none
unfoldable pub function_given : Setting → List ℕ → Trees → State → Option (Trace Applied)
function_given set name ts s = option_or (option_map function_trace (built_in_function name ts s)) (function_later set name ts s)

unfoldable pub function_called : Setting → Level → List ℕ → Trees → State → Trace Applied
function_called set l name ts s = or_applied (function_given set name ts s) l name ts s

-- ---- `call`

-- a name with arguments
pub record Called : Type 0 where
  pub name : List ℕ
  pub args : Trees

-- what an atom or a compound at its root calls, with more arguments behind its own
abbrev pub called_by : Tree → List Tree → Option Called
called_by (var n) more = None
called_by (int i) more = None
called_by (atom name) more = Some (record { name = name; args = trees_of more })
called_by (comp name ts) more = Some (record { name = name; args = trees_of (each_tree ts ++ more) })

abbrev pub unknown_name : {A : Type 0} → List ℕ → ℕ → Trace A
unknown_name name k = end (Raise (comp (codes "unknown_name") (tree (atom name) (tree (int (pos k)) no_trees))))

-- the predicates that a planner call wants: the first that the program lacks is told
abbrev pub with_planner : Setting → Trace State → Trace State
with_planner set t =
    cond (set.defines (codes "final") 1) (cond (set.defines (codes "action") 4) t (unknown_name (codes "action") 4)) (unknown_name (codes "final") 1)

abbrev pub is_known : Setting → List ℕ → ℕ → Bool
is_known set name k = is_predicate name k || (is_later_predicate name k || set.defines name k)

-- a call by name, of a predicate that there is
abbrev pub known_called : Setting → Level → List ℕ → Trees → State → Trace State
known_called set l name ts s =
    cond (is_planner name (tree_count ts)) (with_planner set (predicate_called set l name ts s))
    (cond (is_known set name (tree_count ts)) (predicate_called set l name ts s) (unknown_name name (tree_count ts)))

-- the goal `call` of a term: what waits is run first, and then it leads one down
abbrev pub call_goal : Level → (Tree → List Tree → State → Trace State) → Tree → List Tree → State → Trace State
call_goal l deeper t more s = then ((calls_at l).drained s) (λ r. deeper t more r)

-- `catch` of terms is the catch of their `call`s; its goal is a strict place
abbrev pub catch_called : Level → (Tree → List Tree → State → Trace State) → Trees → State → Trace State
catch_called l deeper (tree g (tree ball (tree h no_trees))) s =
    caught (then (call_goal l deeper g [] s) (λ r. (calls_at l).drained r)) (handling s ball (λ r. call_goal l deeper h [] r))
catch_called l deeper ts s = done

abbrev pub again_called : Level → (Tree → List Tree → State → Trace State) → Trees → State → Trace State
again_called l deeper no_trees s = done
again_called l deeper (tree t ts) s = call_goal l deeper t (each_tree ts) s

-- What a name does that `call` led to at this level; `deeper` is `call` one level down. `catch` and `call` go on with terms that a run makes, which could be for ever: so each of
-- them counts a Tick there. Anything else is what it is as a goal.
abbrev pub name_called : Setting → Level → (Tree → List Tree → State → Trace State) → List ℕ → Trees → State → Trace State
name_called set l deeper name ts s =
    cond (is_catch name (tree_count ts)) (note Tick (catch_called l deeper ts s))
    (cond (is_call name (tree_count ts)) (note Tick (again_called l deeper ts s)) (known_called set l name ts s))

abbrev pub term_called : Setting → Level → (Tree → List Tree → State → Trace State) → Tree → State → Option Called → Trace State
term_called set l deeper t s None = end (Raise (type_error (codes "callable") t s))
term_called set l deeper t s (Some c) = name_called set l deeper c.name c.args s

-- a term with more arguments, called at the level to which `call` led
unfoldable pub called_at_level : Setting → Level → Tree → List Tree → State → Trace State
called_at_level set (lowest c) t more s = term_called set (lowest c) (λ u us r. end Deep) t s (called_by (followed (bindings s) t) more)
called_at_level set (over c l) t more s = term_called set (over c l) (called_at_level set l) t s (called_by (followed (bindings s) t) more)

-- `call` takes one from the depth, and counts no Tick by itself
abbrev pub called_below : Setting → Level → Tree → List Tree → State → Trace State
called_below set (lowest c) t more s = end Deep
called_below set (over c l) t more s = called_at_level set l t more s

-- of the arguments of `call` the first is called, and the others are arguments behind its own
unfoldable pub first_called : Setting → Level → Trees → State → Trace State
first_called set l no_trees s = done
first_called set l (tree t ts) s = called_below set l t (each_tree ts) s
