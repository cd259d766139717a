-- Calls by name without their paths are those of the core meaning, and so all names of the language are.
use Rattle.std.specs.Prelude.{◌≡◌, ℕ, Bool, true, false, cond, List, [], Option, Some, None, option_map, codes, refl}
use Rattle.std.specs.Option.{option_or}
use Rattle.std.proofs.Common.{sym, ◌∙◌, ap}
use Rattle.pi_terms.specs.Tree.{Tree, Trees, no_trees, tree, tree_count}
use Rattle.pi_terms.specs.Copy.{copy, new_variables}
use Rattle.pi_constraints.specs.State.{State, bindings, followed, next}
use Rattle.pi_constraints.specs.Unify.{unified}
use Rattle.pi_constraints.specs.Evaluation.{with_new_variables}
use Rattle.pi_core.specs.CoreTree.{PredTree}
use Rattle.pi_effects.specs.Effect.{Effect}
use Rattle.pi_effects.specs.Items.{each_tree}
use Rattle.pi_effects.specs.BuiltIns.{built_in_predicate}
use Rattle.pi_traces.specs.Trace.{Trace, end, note, Deep, Tick, then}
use Rattle.pi_traces.specs.Control.{caught}
use Rattle.pi_settling.specs.SolveCalls.{is_solve}
use Rattle.pi_meaning.specs.Shared.View.{View}
use Rattle.pi_meaning.specs.Shared.Settle.{settled}
use Rattle.pi_meaning.specs.Shared.Builtin.{settled_effect}
use Rattle.pi_meaning.specs.Shared.Level.{calls_at, or_called}
use Rattle.pi_meaning.specs.Shared.Names.{is_later_predicate, is_planner, is_catch, is_call}
use Rattle.pi_meaning.specs.Shared.Handling.{handled_in as handled_plain, handling as handling_plain}
use Rattle.pi_meaning.specs.Shared.Calls as over_levels
use Rattle.pi_meaning.specs.Shared.Calls.{Called, called_by, unknown_name, is_known}
use Rattle.pi_resume_spec.specs.Resumed.{Search, simple, sequence, ticked}
use Rattle.pi_resume_spec.specs.Searches.{SearchLevel, bottom, above, searches_at, plain_level, without_paths, too_deep}
use Rattle.pi_resume_spec.specs.ByName.{LaterSearches, later_search, SearchSetting, plain_setting, built_in, given_later, predicate_given, predicate_called, handled_in, handling, with_planner, known_called, Deeper, call_goal, catch_called, again_called, name_called, term_called, called_at_level, called_below, first_called, search_setting, all_names}
use Rattle.pi_resume_spec.specs.LanguageLaws.{IsLater}
use Rattle.pi_resume_spec.proofs.PlainLemmas.{same-then, same-caught, plain_of_catch}
use Rattle.pi_resume_spec.proofs.PlainGoals.{plain-simple, plain-sequence, calls-plain, ArePlain, or-plain}

-- ---- what names do by themselves

cond-same : {A B : Type 0} (f : A → B) (test : Bool) (x y : A) (u v : B) → f x ≡ u → f y ≡ v → f (cond test x y) ≡ cond test u v
cond-same f true x y u v a b = a
cond-same f false x y u v a b = b

or-same : {A B : Type 0} (f : A → B) (o p : Option A) (q r : Option B) → option_map f o ≡ q → option_map f p ≡ r → option_map f (option_or o p) ≡ option_or q r
or-same f None p None r a b = b
or-same f None p (Some y) r a b = absurd (cc)
or-same f (Some x) p None r a b = absurd (cc)
or-same f (Some x) p (Some y) r a b = a

built-same : (set : SearchSetting) (o : Option Effect) (s : State) → option_map without_paths (option_map (λ e. simple (settled_effect set.view s e)) o) ≡ option_map (settled_effect set.view s) o
built-same set None s = refl
built-same set (Some e) s = ap Some (plain-simple (settled_effect set.view s e))

solve-or-not : (later : LaterSearches) → IsLater later → (v : View) (l : SearchLevel) (name : List ℕ) (ts : Trees) (s : State) (b : Bool) → is_solve name (tree_count ts) ≡ b →
    without_paths (cond b (later.solves v l name ts s) (simple (later.plain.predicate v (plain_level l) name ts s))) ≡ later.plain.predicate v (plain_level l) name ts s
solve-or-not later is v l name ts s true e = is.plain v l name ts s e
solve-or-not later is v l name ts s false e = plain-simple (later.plain.predicate v (plain_level l) name ts s)

later-same : (later : LaterSearches) → IsLater later → (v : View) (l : SearchLevel) (name : List ℕ) (ts : Trees) (s : State) →
    without_paths (later_search later v l name ts s) ≡ later.plain.predicate v (plain_level l) name ts s
later-same later is v l name ts s = solve-or-not later is v l name ts s (is_solve name (tree_count ts)) refl

given-same : (set : SearchSetting) → IsLater set.later → (l : SearchLevel) (name : List ℕ) (ts : Trees) (s : State) →
    option_map without_paths (predicate_given set l name ts s) ≡ over_levels.predicate_given (plain_setting set) (plain_level l) name ts s
unfolding predicate_given over_levels.predicate_given
given-same set is l name ts s =
    or-same without_paths (built_in set name ts s) (given_later set l name ts s) (over_levels.built_in (plain_setting set) name ts s) (over_levels.given_later (plain_setting set) (plain_level l) name ts s)
    (built-same set (built_in_predicate name ts s) s)
    (cond-same (option_map without_paths) (is_later_predicate name (tree_count ts)) (Some (later_search set.later set.view l name ts s)) None
    (Some (set.later.plain.predicate set.view (plain_level l) name ts s)) None (ap Some (later-same set.later is set.view l name ts s)) refl)

called-same : (set : SearchSetting) → IsLater set.later → (l : SearchLevel) (name : List ℕ) (ts : Trees) (s : State) →
    without_paths (predicate_called set l name ts s) ≡ over_levels.predicate_called (plain_setting set) (plain_level l) name ts s
unfolding predicate_called over_levels.predicate_called
called-same set is l name ts s =
    or-plain (predicate_given set l name ts s) l name ts s ∙ ap (λ o. or_called o (plain_level l) name ts s) (given-same set is l name ts s)

-- ---- `call`

unknown-same : (name : List ℕ) (k : ℕ) → without_paths (simple (unknown_name {A = State} name k)) ≡ unknown_name name k
unknown-same name k = plain-simple (unknown_name name k)

planner-same : (set : SearchSetting) (t : Search State) (u : Trace State) → without_paths t ≡ u → without_paths (with_planner set t) ≡ over_levels.with_planner (plain_setting set) u
planner-same set t u is =
    cond-same without_paths (set.defines (codes "final") 1) (cond (set.defines (codes "action") 4) t (simple (unknown_name (codes "action") 4))) (simple (unknown_name (codes "final") 1))
    (cond (set.defines (codes "action") 4) u (unknown_name (codes "action") 4)) (unknown_name (codes "final") 1)
    (cond-same without_paths (set.defines (codes "action") 4) t (simple (unknown_name (codes "action") 4)) u (unknown_name (codes "action") 4) is (unknown-same (codes "action") 4)) (unknown-same (codes "final") 1)

known-same : (set : SearchSetting) → IsLater set.later → (l : SearchLevel) (name : List ℕ) (ts : Trees) (s : State) →
    without_paths (known_called set l name ts s) ≡ over_levels.known_called (plain_setting set) (plain_level l) name ts s
known-same set is l name ts s =
    let t = predicate_called set l name ts s in
    let u = over_levels.predicate_called (plain_setting set) (plain_level l) name ts s in
    let same = called-same set is l name ts s in
    cond-same without_paths (is_planner name (tree_count ts)) (with_planner set t) (cond (is_known (plain_setting set) name (tree_count ts)) t (simple (unknown_name name (tree_count ts))))
    (over_levels.with_planner (plain_setting set) u) (cond (is_known (plain_setting set) name (tree_count ts)) u (unknown_name name (tree_count ts))) (planner-same set t u same)
    (cond-same without_paths (is_known (plain_setting set) name (tree_count ts)) t (simple (unknown_name name (tree_count ts))) u (unknown_name name (tree_count ts)) same (unknown-same name (tree_count ts)))

-- `call` one level down is the same
abbrev SameDeeper : Deeper → (Tree → List Tree → State → Trace State) → Type 0
SameDeeper deeper other = (t : Tree) (more : List Tree) (s : State) → without_paths (deeper t more s) ≡ other t more s

goal-same : (l : SearchLevel) (deeper : Deeper) (other : Tree → List Tree → State → Trace State) → SameDeeper deeper other → (t : Tree) (more : List Tree) (s : State) →
    without_paths (call_goal l deeper t more s) ≡ over_levels.call_goal (plain_level l) other t more s
goal-same l deeper other same t more s =
    plain-sequence ((searches_at l).drained s) (λ r. deeper t more r)
    ∙ (same-then (without_paths ((searches_at l).drained s)) (λ r. without_paths (deeper t more r)) (λ r. other t more r) (λ r. same t more r)
    ∙ ap (λ c. then (c.drained s) (λ r. other t more r)) (sym (calls-plain l)))

pub handled-plain : {A : Type 0} (s : State) (ball : Tree) (f : State → Search A) (g : State → Trace A) → ((r : State) → without_paths (f r) ≡ g r) → (o : Option State) →
    without_paths (handled_in s ball f o) ≡ handled_plain s ball g o
unfolding then
handled-plain s ball f g same None = refl
handled-plain s ball f g same (Some r) =
    plain-sequence (simple (settled s r)) f
    ∙ (same-then (without_paths (simple (settled s r))) (λ x. without_paths (f x)) g same ∙ ap (λ t. then t g) (plain-simple (settled s r)))

catch-same : (l : SearchLevel) (deeper : Deeper) (other : Tree → List Tree → State → Trace State) → SameDeeper deeper other → (ts : Trees) (s : State) →
    without_paths (catch_called l deeper ts s) ≡ over_levels.catch_called (plain_level l) other ts s
unfolding then
catch-same l deeper other same no_trees s = refl
catch-same l deeper other same (tree g no_trees) s = refl
catch-same l deeper other same (tree g (tree ball no_trees)) s = refl
catch-same l deeper other same (tree g (tree ball (tree h (tree u us)))) s = refl
catch-same l deeper other same (tree g (tree ball (tree h no_trees))) s =
    let goal = sequence (call_goal l deeper g [] s) (λ r. (searches_at l).drained r) in
    let f = handling s ball (λ r. call_goal l deeper h [] r) in
    let k = handling_plain s ball (λ r. over_levels.call_goal (plain_level l) other h [] r) in
    plain_of_catch goal.ways (λ t. (f t).ways)
    ∙ (same-caught (without_paths goal) (λ t. without_paths (f t)) k
    (λ t. handled-plain s t (λ r. call_goal l deeper h [] r) (λ r. over_levels.call_goal (plain_level l) other h [] r) (λ r. goal-same l deeper other same h [] r)
    (unified (with_new_variables (new_variables t) s) ball (copy (next s) t)))
    ∙ ap (λ t. caught t k)
    (plain-sequence (call_goal l deeper g [] s) (λ r. (searches_at l).drained r)
    ∙ (same-then (without_paths (call_goal l deeper g [] s)) (λ r. without_paths ((searches_at l).drained r)) (λ r. (calls_at (plain_level l)).drained r) (λ r. sym (ap (λ c. c.drained r) (calls-plain l)))
    ∙ ap (λ t. then t (λ r. (calls_at (plain_level l)).drained r)) (goal-same l deeper other same g [] s))))

again-same : (l : SearchLevel) (deeper : Deeper) (other : Tree → List Tree → State → Trace State) → SameDeeper deeper other → (ts : Trees) (s : State) →
    without_paths (again_called l deeper ts s) ≡ over_levels.again_called (plain_level l) other ts s
unfolding then
again-same l deeper other same no_trees s = refl
again-same l deeper other same (tree t ts) s = goal-same l deeper other same t (each_tree ts) s

ticked-same : {A : Type 0} (t : Search A) (u : Trace A) → without_paths t ≡ u → without_paths (ticked t) ≡ note Tick u
unfolding then
ticked-same t u is = ap (note Tick) is

name-same : (set : SearchSetting) → IsLater set.later → (l : SearchLevel) (deeper : Deeper) (other : Tree → List Tree → State → Trace State) → SameDeeper deeper other → (name : List ℕ) (ts : Trees) (s : State) →
    without_paths (name_called set l deeper name ts s) ≡ over_levels.name_called (plain_setting set) (plain_level l) other name ts s
name-same set is l deeper other same name ts s =
    let t = known_called set l name ts s in
    let u = over_levels.known_called (plain_setting set) (plain_level l) name ts s in
    let again : Trace State = note Tick (over_levels.again_called (plain_level l) other ts s) in
    let caught_here : Trace State = note Tick (over_levels.catch_called (plain_level l) other ts s) in
    cond-same without_paths (is_catch name (tree_count ts)) (ticked (catch_called l deeper ts s)) (cond (is_call name (tree_count ts)) (ticked (again_called l deeper ts s)) t)
    caught_here (cond (is_call name (tree_count ts)) again u) (ticked-same (catch_called l deeper ts s) (over_levels.catch_called (plain_level l) other ts s) (catch-same l deeper other same ts s))
    (cond-same without_paths (is_call name (tree_count ts)) (ticked (again_called l deeper ts s)) t again u
    (ticked-same (again_called l deeper ts s) (over_levels.again_called (plain_level l) other ts s) (again-same l deeper other same ts s)) (known-same set is l name ts s))

term-same : (set : SearchSetting) → IsLater set.later → (l : SearchLevel) (deeper : Deeper) (other : Tree → List Tree → State → Trace State) → SameDeeper deeper other → (t : Tree) (s : State) (o : Option Called) →
    without_paths (term_called set l deeper t s o) ≡ over_levels.term_called (plain_setting set) (plain_level l) other t s o
unfolding then
term-same set is l deeper other same t s None = refl
term-same set is l deeper other same t s (Some c) = name-same set is l deeper other same c.name c.args s

deep-same : {A : Type 0} → without_paths (too_deep {A = A}) ≡ end Deep
unfolding then
deep-same = refl

at-level : (set : SearchSetting) → IsLater set.later → (l : SearchLevel) (t : Tree) (more : List Tree) (s : State) →
    without_paths (called_at_level set l t more s) ≡ over_levels.called_at_level (plain_setting set) (plain_level l) t more s
unfolding called_at_level over_levels.called_at_level plain_level
at-level set is (bottom c) t more s =
    term-same set is (bottom c) (λ u us r. too_deep) (λ u us r. end Deep) (λ u us r. deep-same) t s (called_by (followed (bindings s) t) more)
at-level set is (above c l) t more s =
    term-same set is (above c l) (called_at_level set l) (over_levels.called_at_level (plain_setting set) (plain_level l)) (at-level set is l) t s (called_by (followed (bindings s) t) more)

below-same : (set : SearchSetting) → IsLater set.later → (l : SearchLevel) (t : Tree) (more : List Tree) (s : State) →
    without_paths (called_below set l t more s) ≡ over_levels.called_below (plain_setting set) (plain_level l) t more s
unfolding plain_level then
below-same set is (bottom c) t more s = refl
below-same set is (above c l) t more s = at-level set is l t more s

pub first-same : (set : SearchSetting) → IsLater set.later → (l : SearchLevel) (ts : Trees) (s : State) →
    without_paths (first_called set l ts s) ≡ over_levels.first_called (plain_setting set) (plain_level l) ts s
unfolding first_called over_levels.first_called then
first-same set is l no_trees s = refl
first-same set is l (tree t ts) s = below-same set is l t (each_tree ts) s

-- ---- all names of the language

pub names-plain : (v : View) (later : LaterSearches) → IsLater later → (preds : List PredTree) → ArePlain (all_names v later preds)
names-plain v later is preds = λ l name ts s.
    let set = search_setting v later preds in
    cond-same (option_map without_paths) (is_call name (tree_count ts)) (Some (first_called set l ts s)) (predicate_given set l name ts s)
    (Some (over_levels.first_called (plain_setting set) (plain_level l) ts s)) (over_levels.predicate_given (plain_setting set) (plain_level l) name ts s)
    (ap Some (first-same set is l ts s)) (given-same set is l name ts s)
