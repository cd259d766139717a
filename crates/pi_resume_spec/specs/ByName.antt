-- Calls by name, as searches: as `Shared.Calls` of the meaning has them. What is built in makes no choice; what later stages of the language give is handed in. (Own.)
use Rattle.std.specs.Prelude.{ℕ, Bool, false, cond, List, [], Option, Some, None, codes, option_map}
use Rattle.std.specs.Option.{option_or}
use Rattle.pi_terms.specs.Tree.{Tree, Trees, no_trees, tree, tree_count}
use Rattle.pi_terms.specs.Copy.{copy, new_variables}
use Rattle.pi_constraints.specs.State.{State, bindings, followed, next}
use Rattle.pi_constraints.specs.Unify.{unified}
use Rattle.pi_constraints.specs.Evaluation.{with_new_variables}
use Rattle.pi_core.specs.CoreTree.{PredTree, find_pred}
use Rattle.pi_effects.specs.Exception.{type_error}
use Rattle.pi_effects.specs.Items.{each_tree}
use Rattle.pi_effects.specs.BuiltIns.{built_in_predicate}
use Rattle.pi_traces.specs.Trace.{end, Raise, done}
use Rattle.pi_settling.specs.SolveCalls.{is_solve}
use Rattle.pi_meaning.specs.Shared.View.{View}
use Rattle.pi_meaning.specs.Shared.Settle.{settled}
use Rattle.pi_meaning.specs.Shared.Builtin.{settled_effect}
use Rattle.pi_meaning.specs.Shared.Names.{is_later_predicate, is_planner, is_catch, is_call}
use Rattle.pi_meaning.specs.Shared.Given.{Later, Setting}
use Rattle.pi_meaning.specs.Shared.Calls.{Called, called_by, unknown_name, is_known}
use Rattle.pi_meaning.specs.CoreMeaning.Builtins.{Builtins}
use Rattle.pi_meaning.specs.CoreMeaning.Instances.{is_called_by_name, built_later, whole}
use Rattle.pi_resume_spec.specs.Resumed.{Search, simple, sequence, caught_search, ticked}
use Rattle.pi_resume_spec.specs.Searches.{SearchLevel, bottom, above, plain_level, searches_at, too_deep}
use Rattle.pi_resume_spec.specs.Solve.{solve_or_unknown}

-- What later stages give. Of their goals labelling alone makes choices, so `solve` is handed in with its paths; every other one has an answer at most, and none.
pub record LaterSearches : Type 0 where
  pub plain : Later
  pub solves : View → SearchLevel → List ℕ → Trees → State → Search State

-- what such a goal does
abbrev pub later_search : LaterSearches → View → SearchLevel → List ℕ → Trees → State → Search State
later_search later v l name ts s = cond (is_solve name (tree_count ts)) (later.solves v l name ts s) (simple (later.plain.predicate v (plain_level l) name ts s))

-- what is built of them
abbrev pub built_searches : LaterSearches
built_searches = record { plain = built_later; solves = λ v l name ts s. solve_or_unknown l name ts s }

pub record SearchSetting : Type 0 where
  pub view : View
  pub later : LaterSearches
  pub defines : List ℕ → ℕ → Bool

abbrev pub plain_setting : SearchSetting → Setting
plain_setting set = record { view = set.view; later = set.later.plain; defines = set.defines }

-- what a name does by itself; where it does nothing by itself, the call of the program's predicate of that name
abbrev pub or_searched : Option (Search State) → SearchLevel → List ℕ → Trees → State → Search State
or_searched None l name ts s = (searches_at l).called name ts s
or_searched (Some t) l name ts s = t

abbrev pub built_in : SearchSetting → List ℕ → Trees → State → Option (Search State)
built_in set name ts s = option_map (λ e. simple (settled_effect set.view s e)) (built_in_predicate name ts s)

abbrev pub given_later : SearchSetting → SearchLevel → List ℕ → Trees → State → Option (Search State)
given_later set l name ts s = cond (is_later_predicate name (tree_count ts)) (Some (later_search set.later set.view l name ts s)) None

unfoldable pub predicate_given : SearchSetting → SearchLevel → List ℕ → Trees → State → Option (Search State)
predicate_given set l name ts s = option_or (built_in set name ts s) (given_later set l name ts s)

unfoldable pub predicate_called : SearchSetting → SearchLevel → List ℕ → Trees → State → Search State
predicate_called set l name ts s = or_searched (predicate_given set l name ts s) l name ts s

-- ---- exceptions that are caught: the handler is the second side of the `catch`

abbrev pub handled_in : {A : Type 0} → State → Tree → (State → Search A) → Option State → Search A
handled_in s ball handler None = simple (end (Raise ball))
handled_in s ball handler (Some r) = sequence (simple (settled s r)) handler

abbrev pub handling : {A : Type 0} → State → Tree → (State → Search A) → Tree → Search A
handling s wanted handler ball =
    handled_in s ball handler (unified (with_new_variables (new_variables ball) s) wanted (copy (next s) ball))

-- ---- `call`

abbrev pub with_planner : SearchSetting → Search State → Search State
with_planner set t =
    cond (set.defines (codes "final") 1) (cond (set.defines (codes "action") 4) t (simple (unknown_name (codes "action") 4))) (simple (unknown_name (codes "final") 1))

abbrev pub known_called : SearchSetting → SearchLevel → List ℕ → Trees → State → Search State
known_called set l name ts s =
    cond (is_planner name (tree_count ts)) (with_planner set (predicate_called set l name ts s))
    (cond (is_known (plain_setting set) name (tree_count ts)) (predicate_called set l name ts s) (simple (unknown_name name (tree_count ts))))

-- what `call` does one level down
abbrev pub Deeper : Type 0
Deeper = Tree → List Tree → State → Search State

abbrev pub call_goal : SearchLevel → Deeper → Tree → List Tree → State → Search State
call_goal l deeper t more s = sequence ((searches_at l).drained s) (λ r. deeper t more r)

abbrev pub catch_called : SearchLevel → Deeper → Trees → State → Search State
catch_called l deeper (tree g (tree ball (tree h no_trees))) s =
    caught_search (sequence (call_goal l deeper g [] s) (λ r. (searches_at l).drained r)) (handling s ball (λ r. call_goal l deeper h [] r))
catch_called l deeper ts s = simple done

abbrev pub again_called : SearchLevel → Deeper → Trees → State → Search State
again_called l deeper no_trees s = simple done
again_called l deeper (tree t ts) s = call_goal l deeper t (each_tree ts) s

abbrev pub name_called : SearchSetting → SearchLevel → Deeper → List ℕ → Trees → State → Search State
name_called set l deeper name ts s =
    cond (is_catch name (tree_count ts)) (ticked (catch_called l deeper ts s))
    (cond (is_call name (tree_count ts)) (ticked (again_called l deeper ts s)) (known_called set l name ts s))

abbrev pub term_called : SearchSetting → SearchLevel → Deeper → Tree → State → Option Called → Search State
term_called set l deeper t s None = simple (end (Raise (type_error (codes "callable") t s)))
term_called set l deeper t s (Some c) = name_called set l deeper c.name c.args s

unfoldable pub called_at_level : SearchSetting → SearchLevel → Tree → List Tree → State → Search State
called_at_level set (bottom c) t more s = term_called set (bottom c) (λ u us r. too_deep) t s (called_by (followed (bindings s) t) more)
called_at_level set (above c l) t more s = term_called set (above c l) (called_at_level set l) t s (called_by (followed (bindings s) t) more)

abbrev pub called_below : SearchSetting → SearchLevel → Tree → List Tree → State → Search State
called_below set (bottom c) t more s = too_deep
called_below set (above c l) t more s = called_at_level set l t more s

unfoldable pub first_called : SearchSetting → SearchLevel → Trees → State → Search State
first_called set l no_trees s = simple done
first_called set l (tree t ts) s = called_below set l t (each_tree ts) s

-- ---- what the core meaning is handed: what names do by themselves, with paths and without

pub record Offers : Type 0 where
  pub predicate : SearchLevel → List ℕ → Trees → State → Option (Search State)
  pub plain : Builtins

abbrev pub search_setting : View → LaterSearches → List PredTree → SearchSetting
search_setting v later preds = record { view = v; later = later; defines = λ name k. is_called_by_name (find_pred false name k preds) }

abbrev pub predicate_or_call : SearchSetting → SearchLevel → List ℕ → Trees → State → Option (Search State)
predicate_or_call set l name ts s = cond (is_call name (tree_count ts)) (Some (first_called set l ts s)) (predicate_given set l name ts s)

-- all names of the language, for a program
abbrev pub all_names : View → LaterSearches → List PredTree → Offers
all_names v later preds = record {
  predicate = λ l name ts s. predicate_or_call (search_setting v later preds) l name ts s;
  plain = whole v later.plain preds;
}
