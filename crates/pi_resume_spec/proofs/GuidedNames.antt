-- All names of the language are guided, where what later stages give is.
use Rattle.std.specs.Prelude.{◌≡◌, refl, ℕ, Bool, true, false, cond, List, [], Option, Some, None, option_map, pos, codes}
use Rattle.std.specs.Option.{option_or}
use Rattle.pi_terms.specs.Tree.{Tree, int, atom, comp, Trees, no_trees, tree, tree_count}
use Rattle.pi_terms.specs.Copy.{copy, new_variables}
use Rattle.pi_constraints.specs.State.{State, bindings, followed, next}
use Rattle.pi_constraints.specs.Unify.{unified}
use Rattle.pi_constraints.specs.Evaluation.{with_new_variables}
use Rattle.pi_core.specs.CoreTree.{PredTree}
use Rattle.pi_effects.specs.Effect.{Effect, Succeeds, Fails, Writes, Raises, FunctionEffect, Gives, Refuses}
use Rattle.pi_effects.specs.Exception.{type_error}
use Rattle.pi_effects.specs.Items.{each_tree}
use Rattle.pi_effects.specs.BuiltIns.{built_in_predicate, built_in_function}
use Rattle.pi_traces.specs.Trace.{Trace, end, End, Raise, Deep, Done, answers}
use Rattle.pi_settling.specs.SolveCalls.{is_solve}
use Rattle.pi_meaning.specs.Shared.View.{View}
use Rattle.pi_meaning.specs.Shared.Within.{Within, a_query, a_body, is_body, resource_left}
use Rattle.pi_meaning.specs.Shared.Builtin.{written, function_trace, settled_effect}
use Rattle.pi_meaning.specs.Shared.Level.{Applied}
use Rattle.pi_meaning.specs.Shared.Names.{is_later_predicate, is_later_function, is_resource, is_planner, is_catch, is_call}
use Rattle.pi_meaning.specs.Shared.Calls as over_levels
use Rattle.pi_meaning.specs.Shared.Calls.{Called, called_by, unknown_name, is_known, function_given}
use Rattle.pi_meaning.specs.CoreMeaning.Instances.{core_setting}
use Rattle.pi_resume_spec.specs.Resumed.{Search, simple, sequence, ticked}
use Rattle.pi_resume_spec.specs.Searches.{SearchLevel, bottom, above, plain_level, searches_at, too_deep}
use Rattle.pi_resume_spec.specs.ByName.{LaterSearches, later_search, SearchSetting, plain_setting, built_in, given_later, predicate_given, predicate_called, handling, with_planner, known_called, Deeper, call_goal, catch_called, again_called, name_called, term_called, called_at_level, called_below, first_called, search_setting, all_names}
use Rattle.pi_resume_spec.specs.LanguageLaws.{OneAtMost, IsGuided, IsGuidedLevel, IsLater}
use Rattle.pi_resume_spec.proofs.GuidedLemmas.{Guided, one-one, one-end, simple-guided, guided-sequence, guided-catch, guided-ticked}
use Rattle.pi_resume_spec.proofs.GuidedGoals.{OptionGuided, OptionOne, AreOffered, Any, any-guided, guided-at, or-guided, one-settled, guided-handled}

if-guided : (test : Bool) (t u : Search State) → IsGuided t → IsGuided u → IsGuided (cond test t u)
if-guided true t u a b = a
if-guided false t u a b = b

pub end-guided : (e : End) → IsGuided {A = State} (simple (end e))
end-guided e = simple-guided (end e) (one-end State e)

-- ---- what names do by themselves

one-written : (b : Bool) (text : List ℕ) (s : State) → OneAtMost (written b text s)
unfolding answers
one-written true text s = one-end State (Raise (atom (codes "output_in_plan")))
one-written false text s = one-one s

pub one-effect : (v : View) (s : State) (e : Effect) → OneAtMost (settled_effect v s e)
one-effect v s (Succeeds r) = one-settled s r
one-effect v s Fails = one-end State Done
one-effect v s (Writes text r) = one-written (is_body v.within) text r
one-effect v s (Raises ball) = one-end State (Raise ball)

effect-guided : (v : View) (s : State) (o : Option Effect) → OptionGuided (option_map (λ e. simple (settled_effect v s e)) o)
effect-guided v s None = tt
effect-guided v s (Some e) = simple-guided (settled_effect v s e) (one-effect v s e)

or-option : (o p : Option (Search State)) → OptionGuided o → OptionGuided p → OptionGuided (option_or o p)
or-option None p a b = b
or-option (Some s) p a b = a

if-option : (test : Bool) (o p : Option (Search State)) → OptionGuided o → OptionGuided p → OptionGuided (cond test o p)
if-option true o p a b = a
if-option false o p a b = b

solve-or-other : (later : LaterSearches) → IsLater later → (v : View) (l : SearchLevel) → IsGuidedLevel l → (name : List ℕ) (ts : Trees) (s : State) (b : Bool) → is_solve name (tree_count ts) ≡ b →
    IsGuided (cond b (later.solves v l name ts s) (simple (later.plain.predicate v (plain_level l) name ts s)))
solve-or-other later is v l h name ts s true e = is.guided v l h name ts s e
solve-or-other later is v l h name ts s false e = simple-guided (later.plain.predicate v (plain_level l) name ts s) (is.others v (plain_level l) name ts s e)

later-guided : (later : LaterSearches) → IsLater later → (v : View) (l : SearchLevel) → IsGuidedLevel l → (name : List ℕ) (ts : Trees) (s : State) → IsGuided (later_search later v l name ts s)
later-guided later is v l h name ts s = solve-or-other later is v l h name ts s (is_solve name (tree_count ts)) refl

given-guided : (set : SearchSetting) → IsLater set.later → (l : SearchLevel) → IsGuidedLevel l → (name : List ℕ) (ts : Trees) (s : State) → OptionGuided (predicate_given set l name ts s)
unfolding predicate_given
given-guided set is l h name ts s =
    or-option (built_in set name ts s) (given_later set l name ts s) (effect-guided set.view s (built_in_predicate name ts s))
    (if-option (is_later_predicate name (tree_count ts)) (Some (later_search set.later set.view l name ts s)) None (later-guided set.later is set.view l h name ts s) tt)

called-guided : (set : SearchSetting) → IsLater set.later → (l : SearchLevel) → IsGuidedLevel l → (name : List ℕ) (ts : Trees) (s : State) → IsGuided (predicate_called set l name ts s)
unfolding predicate_called
called-guided set is l h name ts s = or-guided (predicate_given set l name ts s) l h name ts s (given-guided set is l h name ts s)

-- ---- `call`

pub unknown-guided : (name : List ℕ) (k : ℕ) → IsGuided (simple (unknown_name {A = State} name k))
unknown-guided name k = simple-guided (unknown_name name k) (one-end State (Raise (comp (codes "unknown_name") (tree (atom name) (tree (int (pos k)) no_trees)))))

planner-guided : (set : SearchSetting) (t : Search State) → IsGuided t → IsGuided (with_planner set t)
planner-guided set t h =
    if-guided (set.defines (codes "final") 1) (cond (set.defines (codes "action") 4) t (simple (unknown_name (codes "action") 4))) (simple (unknown_name (codes "final") 1))
    (if-guided (set.defines (codes "action") 4) t (simple (unknown_name (codes "action") 4)) h (unknown-guided (codes "action") 4)) (unknown-guided (codes "final") 1)

known-guided : (set : SearchSetting) → IsLater set.later → (l : SearchLevel) → IsGuidedLevel l → (name : List ℕ) (ts : Trees) (s : State) → IsGuided (known_called set l name ts s)
known-guided set is l h name ts s =
    let t = predicate_called set l name ts s in
    let g = called-guided set is l h name ts s in
    if-guided (is_planner name (tree_count ts)) (with_planner set t) (cond (is_known (plain_setting set) name (tree_count ts)) t (simple (unknown_name name (tree_count ts)))) (planner-guided set t g)
    (if-guided (is_known (plain_setting set) name (tree_count ts)) t (simple (unknown_name name (tree_count ts))) g (unknown-guided name (tree_count ts)))

abbrev DeeperGuided : Deeper → Type 0
DeeperGuided deeper = (t : Tree) (more : List Tree) (s : State) → IsGuided (deeper t more s)

goal-guided : (l : SearchLevel) → IsGuidedLevel l → (deeper : Deeper) → DeeperGuided deeper → (t : Tree) (more : List Tree) (s : State) → Guided Any (call_goal l deeper t more s)
goal-guided l h deeper all t more s =
    guided-sequence Any Any ((searches_at l).drained s) (λ r. deeper t more r) (any-guided ((searches_at l).drained s) ((guided-at l h).drained s)) (λ r u. any-guided (deeper t more r) (all t more r))

catch-guided : (l : SearchLevel) → IsGuidedLevel l → (deeper : Deeper) → DeeperGuided deeper → (ts : Trees) (s : State) → IsGuided (catch_called l deeper ts s)
catch-guided l h deeper all no_trees s = end-guided Done
catch-guided l h deeper all (tree g no_trees) s = end-guided Done
catch-guided l h deeper all (tree g (tree ball no_trees)) s = end-guided Done
catch-guided l h deeper all (tree g (tree ball (tree k (tree u us)))) s = end-guided Done
catch-guided l h deeper all (tree g (tree ball (tree k no_trees))) s =
    let f : State → Search State = λ r. call_goal l deeper k [] r in
    (guided-catch Any (sequence (call_goal l deeper g [] s) (λ r. (searches_at l).drained r)) (handling s ball f)
    (guided-sequence Any Any (call_goal l deeper g [] s) (λ r. (searches_at l).drained r) (goal-guided l h deeper all g [] s) (λ r u. any-guided ((searches_at l).drained r) ((guided-at l h).drained r)))
    (λ t. guided-handled Any s t f (λ r. goal-guided l h deeper all k [] r) (unified (with_new_variables (new_variables t) s) ball (copy (next s) t)))).guided

again-guided : (l : SearchLevel) → IsGuidedLevel l → (deeper : Deeper) → DeeperGuided deeper → (ts : Trees) (s : State) → IsGuided (again_called l deeper ts s)
again-guided l h deeper all no_trees s = end-guided Done
again-guided l h deeper all (tree t ts) s = (goal-guided l h deeper all t (each_tree ts) s).guided

ticked-guided : (s : Search State) → IsGuided s → IsGuided (ticked s)
ticked-guided s g = (guided-ticked Any s (any-guided s g)).guided

name-guided : (set : SearchSetting) → IsLater set.later → (l : SearchLevel) → IsGuidedLevel l → (deeper : Deeper) → DeeperGuided deeper → (name : List ℕ) (ts : Trees) (s : State) → IsGuided (name_called set l deeper name ts s)
name-guided set is l h deeper all name ts s =
    if-guided (is_catch name (tree_count ts)) (ticked (catch_called l deeper ts s)) (cond (is_call name (tree_count ts)) (ticked (again_called l deeper ts s)) (known_called set l name ts s))
    (ticked-guided (catch_called l deeper ts s) (catch-guided l h deeper all ts s))
    (if-guided (is_call name (tree_count ts)) (ticked (again_called l deeper ts s)) (known_called set l name ts s) (ticked-guided (again_called l deeper ts s) (again-guided l h deeper all ts s)) (known-guided set is l h name ts s))

term-guided : (set : SearchSetting) → IsLater set.later → (l : SearchLevel) → IsGuidedLevel l → (deeper : Deeper) → DeeperGuided deeper → (t : Tree) (s : State) (o : Option Called) → IsGuided (term_called set l deeper t s o)
term-guided set is l h deeper all t s None = end-guided (Raise (type_error (codes "callable") t s))
term-guided set is l h deeper all t s (Some c) = name-guided set is l h deeper all c.name c.args s

at-level : (set : SearchSetting) → IsLater set.later → (l : SearchLevel) → IsGuidedLevel l → DeeperGuided (called_at_level set l)
unfolding called_at_level IsGuidedLevel
at-level set is (bottom c) h t more s = term-guided set is (bottom c) h (λ u us r. too_deep) (λ u us r. end-guided Deep) t s (called_by (followed (bindings s) t) more)
at-level set is (above c l) h t more s = term-guided set is (above c l) h (called_at_level set l) (at-level set is l h.1) t s (called_by (followed (bindings s) t) more)

below-guided : (set : SearchSetting) → IsLater set.later → (l : SearchLevel) → IsGuidedLevel l → (t : Tree) (more : List Tree) (s : State) → IsGuided (called_below set l t more s)
unfolding IsGuidedLevel
below-guided set is (bottom c) h t more s = end-guided Deep
below-guided set is (above c l) h t more s = at-level set is l h.1 t more s

first-guided : (set : SearchSetting) → IsLater set.later → (l : SearchLevel) → IsGuidedLevel l → (ts : Trees) (s : State) → IsGuided (first_called set l ts s)
unfolding first_called
first-guided set is l h no_trees s = end-guided Done
first-guided set is l h (tree t ts) s = below-guided set is l h t (each_tree ts) s

-- ---- functions

one-given : (o : Option FunctionEffect) → OptionOne (option_map function_trace o)
one-given None = tt
one-given (Some (Gives t s)) = one-one (record { value = t; state = s })
one-given (Some (Refuses ball)) = one-end Applied (Raise ball)

one-left : (w : Within) (s : State) → OneAtMost (resource_left w s)
one-left a_query s = one-end Applied (Raise (atom (codes "no_resource")))
one-left (a_body n) s = one-one (record { value = int (pos n); state = s })

or-one : (o p : Option (Trace Applied)) → OptionOne o → OptionOne p → OptionOne (option_or o p)
or-one None p a b = b
or-one (Some t) p a b = a

if-one : (test : Bool) (o p : Option (Trace Applied)) → OptionOne o → OptionOne p → OptionOne (cond test o p)
if-one true o p a b = a
if-one false o p a b = b

-- ---- all names of the language

pub names-offered : (v : View) (later : LaterSearches) → IsLater later → (preds : List PredTree) → AreOffered (all_names v later preds)
unfolding function_given
names-offered v later is preds = record {
  predicates = λ l h name ts s.
      let set = search_setting v later preds in
      if-option (is_call name (tree_count ts)) (Some (first_called set l ts s)) (predicate_given set l name ts s) (first-guided set is l h ts s) (given-guided set is l h name ts s);
  functions = λ l name ts s.
      let set = core_setting v later.plain preds in
      or-one (option_map function_trace (built_in_function name ts s)) (over_levels.function_later set name ts s) (one-given (built_in_function name ts s))
      (if-one (is_resource name (tree_count ts)) (Some (resource_left v.within s)) (cond (is_later_function name (tree_count ts)) (Some (later.plain.function name ts s)) None) (one-left v.within s)
      (if-one (is_later_function name (tree_count ts)) (Some (later.plain.function name ts s)) None (is.functions name ts s) tt));
}
