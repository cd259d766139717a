-- More depth only adds to calls by name, in both runs, where it does to what later stages give, as it does where none is there.
use Rattle.std.specs.Prelude.{ℕ, Bool, true, false, cond, List, [], Option, Some, None, codes, ⊤}
use Rattle.std.specs.Option.{option_or}
use Rattle.pi_terms.specs.Tree.{Tree, Trees, no_trees, tree, tree_count}
use Rattle.pi_terms.specs.Copy.{copy, new_variables}
use Rattle.pi_constraints.specs.State.{State, bindings, followed, next}
use Rattle.pi_constraints.specs.Unify.{unified}
use Rattle.pi_constraints.specs.Evaluation.{with_new_variables}
use Rattle.pi_core.specs.CoreTree.{PredTree}
use Rattle.pi_effects.specs.Items.{each_tree}
use Rattle.pi_effects.specs.Exception.{type_error}
use Rattle.pi_traces.specs.Trace.{end, Raise, done}
use Rattle.pi_traces.proofs.RelatedLemmas.{Same, by-below}
use Rattle.pi_settling.specs.SolveCalls.{is_solve}
use Rattle.pi_meaning.specs.Shared.View.{View}
use Rattle.pi_meaning.specs.Shared.Names.{is_later_predicate, is_planner, is_catch, is_call}
use Rattle.pi_meaning.specs.Shared.Calls.{Called, called_by, unknown_name, is_known}
use Rattle.pi_meaning.proofs.Shared.CallLemmas.{built-later-adds, whole-adds}
use Rattle.pi_resume_spec.specs.Resumed.{Search, simple, sequence, ticked}
use Rattle.pi_resume_spec.specs.Searches.{SearchLevel, bottom, above, searches_at, plain_level, too_deep}
use Rattle.pi_resume_spec.specs.ByName.{LaterSearches, later_search, SearchSetting, plain_setting, or_searched, built_in, given_later, predicate_given, predicate_called, handling, with_planner, known_called, Deeper, call_goal, catch_called, again_called, name_called, term_called, called_at_level, called_below, first_called, search_setting, predicate_or_call}
use Rattle.pi_resume_spec.specs.More.{SearchBelow, SearchLevelBelow, LaterSearchesAdd}
use Rattle.pi_resume_spec.specs.RunLaws.{NamesOnlyAdd, BuiltSearchesAdd}
use Rattle.pi_resume_spec.proofs.MoreLemmas.{SearchBy, search-below, search-by, search-itself, simple-by, deep-by, sequence-same, HandlersBy, caught-by, ticked-by}
use Rattle.pi_resume_spec.proofs.SolveMore.{solve-more}
use Rattle.pi_resume_spec.proofs.MoreGoals.{searches-below, plain-below, handled-more}

cond-more : (test : Bool) (s t u v : Search State) → SearchBelow s u → SearchBelow t v → SearchBelow (cond test s t) (cond test u v)
cond-more true s t u v a b = a
cond-more false s t u v a b = b

-- ---- what a name does by itself

-- both do something, and the second maybe more, or none does
abbrev OptionMore : Option (Search State) → Option (Search State) → Type 0
OptionMore None None = ⊤
OptionMore None (Some t) = ⊥
OptionMore (Some s) None = ⊥
OptionMore (Some s) (Some t) = SearchBelow s t

or-more : (o p q : Option (Search State)) → OptionMore p q → OptionMore (option_or o p) (option_or o q)
or-more None p q b = b
or-more (Some s) p q b = search-itself s

some-more : (test : Bool) (s t : Search State) (o p : Option (Search State)) → SearchBelow s t → OptionMore o p → OptionMore (cond test (Some s) o) (cond test (Some t) p)
some-more true s t o p a b = a
some-more false s t o p a b = b

or-searched : (o p : Option (Search State)) → OptionMore o p → (l m : SearchLevel) → SearchLevelBelow l m → (name : List ℕ) (ts : Trees) (s : State) →
    SearchBelow (or_searched o l name ts s) (or_searched p m name ts s)
or-searched None None a l m h name ts s = (searches-below l m h).called name ts s
or-searched None (Some u) a l m h name ts s = absurd a
or-searched (Some t) None a l m h name ts s = absurd a
or-searched (Some t) (Some u) a l m h name ts s = a

simple-more : (later : LaterSearches) → LaterSearchesAdd later → (v : View) (l m : SearchLevel) → SearchLevelBelow l m → (name : List ℕ) (ts : Trees) (s : State) →
    SearchBelow (simple (later.plain.predicate v (plain_level l) name ts s)) (simple (later.plain.predicate v (plain_level m) name ts s))
simple-more later adds v l m h name ts s =
    let t = later.plain.predicate v (plain_level l) name ts s in
    let u = later.plain.predicate v (plain_level m) name ts s in
    search-below (simple t) (simple u) (simple-by Same t u (by-below t u (adds.plain v (plain_level l) (plain_level m) (plain-below l m h) name ts s)))

later-more : (later : LaterSearches) → LaterSearchesAdd later → (v : View) (l m : SearchLevel) → SearchLevelBelow l m → (name : List ℕ) (ts : Trees) (s : State) →
    SearchBelow (later_search later v l name ts s) (later_search later v m name ts s)
later-more later adds v l m h name ts s =
    cond-more (is_solve name (tree_count ts)) (later.solves v l name ts s) (simple (later.plain.predicate v (plain_level l) name ts s)) (later.solves v m name ts s)
    (simple (later.plain.predicate v (plain_level m) name ts s)) (adds.solves v l m h name ts s) (simple-more later adds v l m h name ts s)

given-more : (set : SearchSetting) → LaterSearchesAdd set.later → (l m : SearchLevel) → SearchLevelBelow l m → (name : List ℕ) (ts : Trees) (s : State) →
    OptionMore (predicate_given set l name ts s) (predicate_given set m name ts s)
unfolding predicate_given
given-more set adds l m h name ts s =
    or-more (built_in set name ts s) (given_later set l name ts s) (given_later set m name ts s)
    (some-more (is_later_predicate name (tree_count ts)) (later_search set.later set.view l name ts s) (later_search set.later set.view m name ts s) None None (later-more set.later adds set.view l m h name ts s) tt)

called-more : (set : SearchSetting) → LaterSearchesAdd set.later → (l m : SearchLevel) → SearchLevelBelow l m → (name : List ℕ) (ts : Trees) (s : State) →
    SearchBelow (predicate_called set l name ts s) (predicate_called set m name ts s)
unfolding predicate_called
called-more set adds l m h name ts s = or-searched (predicate_given set l name ts s) (predicate_given set m name ts s) (given-more set adds l m h name ts s) l m h name ts s

-- ---- `call`

abbrev DeeperMore : Deeper → Deeper → Type 0
DeeperMore f g = (t : Tree) (more : List Tree) (s : State) → SearchBelow (f t more s) (g t more s)

call-goal : (l m : SearchLevel) → SearchLevelBelow l m → (f g : Deeper) → DeeperMore f g → (t : Tree) (more : List Tree) (s : State) → SearchBy Same (call_goal l f t more s) (call_goal m g t more s)
call-goal l m h f g each t more s =
    sequence-same Same ((searches_at l).drained s) ((searches_at m).drained s) (λ r. f t more r) (λ r. g t more r) ((searches-below l m h).drained s)
    (λ r. search-by (f t more r) (g t more r) (each t more r))

catch-more : (l m : SearchLevel) → SearchLevelBelow l m → (f g : Deeper) → DeeperMore f g → (ts : Trees) (s : State) → SearchBelow (catch_called l f ts s) (catch_called m g ts s)
unfolding HandlersBy
catch-more l m h f g each (tree t (tree ball (tree k no_trees))) s =
    let a : Search State = sequence (call_goal l f t [] s) (λ r. (searches_at l).drained r) in
    let b : Search State = sequence (call_goal m g t [] s) (λ r. (searches_at m).drained r) in
    let x : State → Search State = λ r. call_goal l f k [] r in
    let y : State → Search State = λ r. call_goal m g k [] r in
    search-below (catch_called l f (tree t (tree ball (tree k no_trees))) s) (catch_called m g (tree t (tree ball (tree k no_trees))) s)
    (caught-by Same a b (handling s ball x) (handling s ball y)
    (sequence-same Same (call_goal l f t [] s) (call_goal m g t [] s) (λ r. (searches_at l).drained r) (λ r. (searches_at m).drained r)
    (search-below (call_goal l f t [] s) (call_goal m g t [] s) (call-goal l m h f g each t [] s)) (λ r. search-by ((searches_at l).drained r) ((searches_at m).drained r) ((searches-below l m h).drained r)))
    (λ raised. handled-more Same s raised x y (λ r. call-goal l m h f g each k [] r) (unified (with_new_variables (new_variables raised) s) ball (copy (next s) raised))))
catch-more l m h f g each no_trees s = search-itself (simple done)
catch-more l m h f g each (tree t no_trees) s = search-itself (simple done)
catch-more l m h f g each (tree t (tree u no_trees)) s = search-itself (simple done)
catch-more l m h f g each (tree t (tree u (tree v (tree w ts)))) s = search-itself (simple done)

again-more : (l m : SearchLevel) → SearchLevelBelow l m → (f g : Deeper) → DeeperMore f g → (ts : Trees) (s : State) → SearchBelow (again_called l f ts s) (again_called m g ts s)
again-more l m h f g each no_trees s = search-itself (simple done)
again-more l m h f g each (tree t ts) s = search-below (call_goal l f t (each_tree ts) s) (call_goal m g t (each_tree ts) s) (call-goal l m h f g each t (each_tree ts) s)

planner-more : (set : SearchSetting) (t u : Search State) → SearchBelow t u → SearchBelow (with_planner set t) (with_planner set u)
planner-more set t u b =
    let final : Search State = simple (unknown_name (codes "final") 1) in
    let action : Search State = simple (unknown_name (codes "action") 4) in
    cond-more (set.defines (codes "final") 1) (cond (set.defines (codes "action") 4) t action) final (cond (set.defines (codes "action") 4) u action) final
    (cond-more (set.defines (codes "action") 4) t action u action b (search-itself action)) (search-itself final)

known-more : (set : SearchSetting) → LaterSearchesAdd set.later → (l m : SearchLevel) → SearchLevelBelow l m → (name : List ℕ) (ts : Trees) (s : State) → SearchBelow (known_called set l name ts s) (known_called set m name ts s)
known-more set adds l m h name ts s =
    let t : Search State = predicate_called set l name ts s in
    let u : Search State = predicate_called set m name ts s in
    let none : Search State = simple (unknown_name name (tree_count ts)) in
    let more : SearchBelow t u = called-more set adds l m h name ts s in
    let known : Bool = is_known (plain_setting set) name (tree_count ts) in
    cond-more (is_planner name (tree_count ts)) (with_planner set t) (cond known t none) (with_planner set u) (cond known u none) (planner-more set t u more)
    (cond-more known t none u none more (search-itself none))

ticked-more : (s t : Search State) → SearchBelow s t → SearchBelow (ticked s) (ticked t)
ticked-more s t h = search-below (ticked s) (ticked t) (ticked-by Same s t (search-by s t h))

name-more : (set : SearchSetting) → LaterSearchesAdd set.later → (l m : SearchLevel) → SearchLevelBelow l m → (f g : Deeper) → DeeperMore f g → (name : List ℕ) (ts : Trees) (s : State) →
    SearchBelow (name_called set l f name ts s) (name_called set m g name ts s)
name-more set adds l m h f g each name ts s =
    cond-more (is_catch name (tree_count ts)) (ticked (catch_called l f ts s)) (cond (is_call name (tree_count ts)) (ticked (again_called l f ts s)) (known_called set l name ts s))
    (ticked (catch_called m g ts s)) (cond (is_call name (tree_count ts)) (ticked (again_called m g ts s)) (known_called set m name ts s))
    (ticked-more (catch_called l f ts s) (catch_called m g ts s) (catch-more l m h f g each ts s))
    (cond-more (is_call name (tree_count ts)) (ticked (again_called l f ts s)) (known_called set l name ts s) (ticked (again_called m g ts s)) (known_called set m name ts s)
    (ticked-more (again_called l f ts s) (again_called m g ts s) (again-more l m h f g each ts s)) (known-more set adds l m h name ts s))

term-more : (set : SearchSetting) → LaterSearchesAdd set.later → (l m : SearchLevel) → SearchLevelBelow l m → (f g : Deeper) → DeeperMore f g → (t : Tree) (s : State) (o : Option Called) →
    SearchBelow (term_called set l f t s o) (term_called set m g t s o)
term-more set adds l m h f g each t s None = search-itself (simple (end (Raise (type_error (codes "callable") t s))))
term-more set adds l m h f g each t s (Some c) = name-more set adds l m h f g each c.name c.args s

abbrev no-more : Deeper
no-more u us r = too_deep

deeper-more : (t : Search State) → SearchBelow too_deep t
deeper-more t = search-below too_deep t (deep-by Same t)

at-level : (set : SearchSetting) → LaterSearchesAdd set.later → (l m : SearchLevel) → SearchLevelBelow l m → (t : Tree) (more : List Tree) (s : State) →
    SearchBelow (called_at_level set l t more s) (called_at_level set m t more s)
unfolding called_at_level
at-level set adds (bottom c) (bottom d) h t more s =
    term-more set adds (bottom c) (bottom d) h no-more no-more (λ u us r. deeper-more too_deep) t s (called_by (followed (bindings s) t) more)
at-level set adds (bottom c) (above d m) h t more s =
    term-more set adds (bottom c) (above d m) h no-more (called_at_level set m) (λ u us r. deeper-more (called_at_level set m u us r)) t s (called_by (followed (bindings s) t) more)
at-level set adds (above c l) (bottom d) h t more s = absurd h
at-level set adds (above c l) (above d m) h t more s =
    term-more set adds (above c l) (above d m) h (called_at_level set l) (called_at_level set m) (at-level set adds l m h.1) t s (called_by (followed (bindings s) t) more)

one-down : (set : SearchSetting) → LaterSearchesAdd set.later → (l m : SearchLevel) → SearchLevelBelow l m → (t : Tree) (more : List Tree) (s : State) → SearchBelow (called_below set l t more s) (called_below set m t more s)
one-down set adds (bottom c) m h t more s = deeper-more (called_below set m t more s)
one-down set adds (above c l) (bottom d) h t more s = absurd h
one-down set adds (above c l) (above d m) h t more s = at-level set adds l m h.1 t more s

first-more : (set : SearchSetting) → LaterSearchesAdd set.later → (l m : SearchLevel) → SearchLevelBelow l m → (ts : Trees) (s : State) → SearchBelow (first_called set l ts s) (first_called set m ts s)
unfolding first_called
first-more set adds l m h no_trees s = search-itself (simple done)
first-more set adds l m h (tree t ts) s = one-down set adds l m h t (each_tree ts) s

-- ---- all names of the language

offered-more : (v : View) (later : LaterSearches) → LaterSearchesAdd later → (preds : List PredTree) (l m : SearchLevel) → SearchLevelBelow l m → (name : List ℕ) (ts : Trees) (s : State) →
    OptionMore (predicate_or_call (search_setting v later preds) l name ts s) (predicate_or_call (search_setting v later preds) m name ts s)
offered-more v later adds preds l m h name ts s =
    let set : SearchSetting = search_setting v later preds in
    some-more (is_call name (tree_count ts)) (first_called set l ts s) (first_called set m ts s) (predicate_given set l name ts s) (predicate_given set m name ts s)
    (first-more set adds l m h ts s) (given-more set adds l m h name ts s)

pub names-more : NamesOnlyAdd
names-more v later adds preds = record {
  predicates = λ l m h name ts s.
      let set : SearchSetting = search_setting v later preds in
      or-searched (predicate_or_call set l name ts s) (predicate_or_call set m name ts s) (offered-more v later adds preds l m h name ts s) l m h name ts s;
  plain = whole-adds v later.plain preds adds.plain;
}

pub built-adds : BuiltSearchesAdd
built-adds = record { solves = λ v l m h name ts s. solve-more l m h name ts s; plain = built-later-adds }
