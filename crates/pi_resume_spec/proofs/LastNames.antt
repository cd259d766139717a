-- All names of the language last as long as their level is deep, in both runs, with what is built of later stages; and so each resumed run has a depth for each cut.
use Rattle.std.specs.Prelude.{◌≡◌, ℕ, suc, ◌-◌, ◌≤◌, Bool, true, false, cond, ◌||◌, List, [], ◌++◌, length, Option, Some, None, option_map, is_some, codes, refl}
use Rattle.std.specs.Option.{option_or}
use Rattle.std.proofs.Common.{arith, sym, ◌∙◌, ap}
use Rattle.pi_terms.specs.Tree.{Tree, Trees, no_trees, tree, tree_count}
use Rattle.pi_terms.specs.Copy.{copy, new_variables}
use Rattle.pi_constraints.specs.State.{State, next, bindings, followed}
use Rattle.pi_constraints.specs.Unify.{unified}
use Rattle.pi_constraints.specs.Evaluation.{with_new_variables}
use Rattle.pi_core.specs.CoreTree.{PredTree, QueryTree, find_pred}
use Rattle.pi_effects.specs.Items.{each_tree}
use Rattle.pi_effects.specs.Effect.{Effect}
use Rattle.pi_effects.specs.BuiltIns.{built_in_predicate, is_predicate}
use Rattle.pi_effects.specs.Exception.{type_error}
use Rattle.pi_traces.specs.Trace.{end, Raise, done}
use Rattle.pi_traces.proofs.LastLemmas.{Any, any-falls, done-lasts, raise-lasts}
use Rattle.pi_settling.specs.SolveCalls.{is_solve}
use Rattle.pi_meaning.specs.Shared.View.{View}
use Rattle.pi_meaning.specs.Shared.Settle.{settled}
use Rattle.pi_meaning.specs.Shared.Names.{is_later_predicate, is_planner, is_catch, is_call}
use Rattle.pi_meaning.specs.Shared.Builtin.{settled_effect}
use Rattle.pi_meaning.specs.Shared.Calls as over_levels
use Rattle.pi_meaning.specs.Shared.Calls.{Called, called_by, unknown_name, is_known}
use Rattle.pi_meaning.specs.CoreMeaning.Instances.{is_called_by_name, core_setting, built_later}
use Rattle.pi_meaning.specs.CoreMeaning.Quiet.{TicksBetween}
use Rattle.pi_meaning.specs.CoreMeaning.Run.{Solution}
use Rattle.pi_meaning.proofs.Shared.KnownLemmas.{given-known, planner-later}
use Rattle.pi_meaning.proofs.CoreMeaning.QuietGoals.{worth, counted as counts, worth-counted, settled-lasts, settled-effect-lasts}
use Rattle.pi_meaning.proofs.CoreMeaning.QuietCalls.{built-predicate-lasts, whole-lasts}
use Rattle.pi_resume_spec.specs.Resumed.{Search, simple, sequence, ticked}
use Rattle.pi_resume_spec.specs.Searches.{SearchLevel, bottom, above, searches_at, plain_level, too_deep}
use Rattle.pi_resume_spec.specs.ByName.{Offers, built_searches, later_search, SearchSetting, or_searched, built_in, given_later, predicate_given, predicate_called, handled_in, handling, with_planner, known_called, Deeper, call_goal, catch_called, again_called, term_called, called_at_level, first_called, search_setting, all_names}
use Rattle.pi_resume_spec.specs.Solve.{solve_or_unknown}
use Rattle.pi_resume_spec.specs.Queries.{query_search, resumed_query}
use Rattle.pi_resume_spec.specs.ResumedCut.{ResumedWithoutDeep}
use Rattle.pi_resume_spec.proofs.LastLemmas.{SearchLasts, less-search, none-search, simple-lasts, sequence-lasts, catch-lasts as caught-lasts, tick-lasts, resumed-lasts, resumed-cut_lasts}
use Rattle.pi_resume_spec.proofs.LastGoals.{depth_of, count_at, SearchLevelLasts, searches-last, plain-lasts, OptionSearchLasts, OffersLast}
use Rattle.pi_resume_spec.proofs.SolveLasts.{solve-lasts}
use Rattle.pi_resume_spec.proofs.LastRules.{twice, query-lasts}

cond-lasts : (d : ℕ) (test : Bool) (s t : Search State) → SearchLasts Any d s → SearchLasts Any d t → SearchLasts Any d (cond test s t)
cond-lasts d true s t a b = a
cond-lasts d false s t a b = b

unknown-lasts : (d : ℕ) (name : List ℕ) (k : ℕ) → SearchLasts {A = State} Any d (simple (unknown_name name k))
unknown-lasts d name k = simple-lasts Any any-falls d (unknown_name name k) (raise-lasts Any d _)

done-search : (d : ℕ) → SearchLasts {A = State} Any d (simple done)
done-search d = simple-lasts Any any-falls d done (done-lasts Any d)

or-lasts : (d : ℕ) (o p : Option (Search State)) → OptionSearchLasts d o → OptionSearchLasts d p → OptionSearchLasts d (option_or o p)
or-lasts d None p a b = b
or-lasts d (Some t) p a b = a

some-lasts : (d : ℕ) (test : Bool) (s : Search State) (o : Option (Search State)) → SearchLasts Any d s → OptionSearchLasts d o → OptionSearchLasts d (cond test (Some s) o)
some-lasts d true s o a b = a
some-lasts d false s o a b = b

-- ---- what a name does by itself

abbrev alone : View → List PredTree → SearchSetting
alone v preds = search_setting v built_searches preds

effect-lasts : (v : View) (d : ℕ) (s : State) (o : Option Effect) → OptionSearchLasts d (option_map (λ e. simple (settled_effect v s e)) o)
effect-lasts v d s None = tt
effect-lasts v d s (Some e) = simple-lasts Any any-falls d (settled_effect v s e) (settled-effect-lasts d v s e)

later-lasts : (v : View) (preds : List PredTree) (r : TicksBetween preds) (f d : ℕ) (l : SearchLevel) → d ≤ count_at l → SearchLevelLasts preds r f l → (name : List ℕ) (ts : Trees) (s : State) →
    SearchLasts Any d (later_search built_searches v l name ts s)
later-lasts v preds r f d l h last name ts s =
    cond-lasts d (is_solve name (tree_count ts)) (solve_or_unknown l name ts s) (simple (built_later.predicate v (plain_level l) name ts s)) (solve-lasts preds r f d l h last name ts s)
    (simple-lasts Any any-falls d (built_later.predicate v (plain_level l) name ts s) (built-predicate-lasts preds r f d (plain_level l) h (plain-lasts preds r f l last) v name ts s))

given-lasts : (v : View) (preds : List PredTree) (r : TicksBetween preds) (f d : ℕ) (l : SearchLevel) → d ≤ count_at l → SearchLevelLasts preds r f l → (name : List ℕ) (ts : Trees) (s : State) →
    OptionSearchLasts d (predicate_given (alone v preds) l name ts s)
unfolding predicate_given
given-lasts v preds r f d l h last name ts s =
    or-lasts d (built_in (alone v preds) name ts s) (given_later (alone v preds) l name ts s) (effect-lasts v d s (built_in_predicate name ts s))
    (some-lasts d (is_later_predicate name (tree_count ts)) (later_search built_searches v l name ts s) None (later-lasts v preds r f d l h last name ts s) tt)

-- ---- calls by name

-- what does nothing with paths does nothing without them
none-too : {E A B : Type 0} (o : Option E) (f : E → A) (g : E → B) (later : Bool) (x : A) (y : B) → option_or (option_map f o) (cond later (Some x) None) ≡ None → option_or (option_map g o) (cond later (Some y) None) ≡ None
none-too None f g true x y is = absurd cc
none-too None f g false x y is = refl
none-too (Some e) f g later x y is = absurd cc

given-none : (v : View) (preds : List PredTree) (l : SearchLevel) (name : List ℕ) (ts : Trees) (s : State) → predicate_given (alone v preds) l name ts s ≡ None →
    over_levels.predicate_given (core_setting v built_later preds) (plain_level l) name ts s ≡ None
unfolding predicate_given over_levels.predicate_given
given-none v preds l name ts s is =
    none-too (built_in_predicate name ts s) (λ e. simple (settled_effect v s e)) (settled_effect v s) (is_later_predicate name (tree_count ts)) (later_search built_searches v l name ts s)
    (built_later.predicate v (plain_level l) name ts s) is

-- a name that does nothing by itself is found
Finds : View → List PredTree → SearchLevel → List ℕ → Trees → State → Type 0
Finds v preds l name ts s = predicate_given (alone v preds) l name ts s ≡ None → is_called_by_name (find_pred false name (tree_count ts) preds) ≡ true

called-lasts : (preds : List PredTree) (r : TicksBetween preds) (f d : ℕ) (l : SearchLevel) → d ≤ count_at l → SearchLevelLasts preds r f l → (name : List ℕ) (ts : Trees) (s : State) →
    (o : Option (Search State)) → OptionSearchLasts d o → (o ≡ None → is_called_by_name (find_pred false name (tree_count ts) preds) ≡ true) → SearchLasts Any d (or_searched o l name ts s)
called-lasts preds r f d l h last name ts s None a found =
    less-search Any any-falls (count_at l) d h ((searches_at l).called name ts s) ((searches-last preds r f l last).loud name ts s (found refl))
called-lasts preds r f d l h last name ts s (Some t) a found = a

predicate-lasts : (v : View) (preds : List PredTree) (r : TicksBetween preds) (f d : ℕ) (l : SearchLevel) → d ≤ count_at l → SearchLevelLasts preds r f l → (name : List ℕ) (ts : Trees) (s : State) →
    Finds v preds l name ts s → SearchLasts Any d (predicate_called (alone v preds) l name ts s)
unfolding predicate_called Finds
predicate-lasts v preds r f d l h last name ts s found =
    called-lasts preds r f d l h last name ts s (predicate_given (alone v preds) l name ts s) (given-lasts v preds r f d l h last name ts s) found

known-finds : (v : View) (preds : List PredTree) (l : SearchLevel) (name : List ℕ) (ts : Trees) (s : State) → is_known (core_setting v built_later preds) name (tree_count ts) ≡ true → Finds v preds l name ts s
unfolding Finds
known-finds v preds l name ts s known none =
    go (is_predicate name (tree_count ts)) (is_later_predicate name (tree_count ts)) (is_called_by_name (find_pred false name (tree_count ts) preds))
    (sym (given-known (core_setting v built_later preds) (plain_level l) name ts s) ∙ ap is_some (given-none v preds l name ts s none)) known
  where
    go : (table later own : Bool) → (table || later) ≡ false → (table || (later || own)) ≡ true → own ≡ true
    go true later own given is = absurd cc
    go false true own given is = absurd cc
    go false false own given is = is

later-finds : (v : View) (preds : List PredTree) (l : SearchLevel) (name : List ℕ) (ts : Trees) (s : State) → is_later_predicate name (tree_count ts) ≡ true → Finds v preds l name ts s
unfolding Finds
later-finds v preds l name ts s later none =
    go (is_predicate name (tree_count ts)) (is_later_predicate name (tree_count ts))
    (sym (given-known (core_setting v built_later preds) (plain_level l) name ts s) ∙ ap is_some (given-none v preds l name ts s none)) later
  where
    go : (table given : Bool) → (table || given) ≡ false → given ≡ true → is_called_by_name (find_pred false name (tree_count ts) preds) ≡ true
    go true given none is = absurd cc
    go false true none is = absurd cc
    go false false none is = absurd cc

known-lasts : (v : View) (preds : List PredTree) (r : TicksBetween preds) (f d : ℕ) (l : SearchLevel) → d ≤ count_at l → SearchLevelLasts preds r f l → (name : List ℕ) (ts : Trees) (s : State) →
    SearchLasts Any d (known_called (alone v preds) l name ts s)
known-lasts v preds r f d l h last name ts s = planner (is_planner name k) refl
  where
    k : ℕ
    k = tree_count ts

    called : Search State
    called = predicate_called (alone v preds) l name ts s

    known : (c : Bool) → is_known (core_setting v built_later preds) name k ≡ c → SearchLasts Any d (cond c called (simple (unknown_name name k)))
    known true is = predicate-lasts v preds r f d l h last name ts s (known-finds v preds l name ts s is)
    known false is = unknown-lasts d name k

    planner : (c : Bool) → is_planner name k ≡ c → SearchLasts Any d (cond c (with_planner (alone v preds) called) (cond (is_known (core_setting v built_later preds) name k) called (simple (unknown_name name k))))
    planner true is =
        cond-lasts d ((alone v preds).defines (codes "final") 1) (cond ((alone v preds).defines (codes "action") 4) called (simple (unknown_name (codes "action") 4))) (simple (unknown_name (codes "final") 1))
        (cond-lasts d ((alone v preds).defines (codes "action") 4) called (simple (unknown_name (codes "action") 4))
        (predicate-lasts v preds r f d l h last name ts s (later-finds v preds l name ts s (planner-later name k is))) (unknown-lasts d (codes "action") 4))
        (unknown-lasts d (codes "final") 1)
    planner false is = known (is_known (core_setting v built_later preds) name k) refl

-- ---- `call`

-- what `call` leads to one level down lasts
abbrev DeeperLasts : ℕ → Deeper → Type 0
DeeperLasts d f = (k : ℕ) → k ≤ d → (t : Tree) (ts : List Tree) (s : State) → SearchLasts Any k (f t ts s)

goal-lasts : (preds : List PredTree) (r : TicksBetween preds) (f d : ℕ) (l : SearchLevel) → SearchLevelLasts preds r f l → (deeper : Deeper) → DeeperLasts d deeper → (t : Tree) (more : List Tree) (s : State) →
    SearchLasts Any d (call_goal l deeper t more s)
goal-lasts preds r f d l last deeper each t more s =
    sequence-lasts Any Any any-falls d ((searches_at l).drained s) (λ x. deeper t more x) ((searches-last preds r f l last).drained d s) (λ k x m o. each k m t more x)

handled-lasts : (d : ℕ) (s : State) (ball : Tree) (f : State → Search State) → ((k : ℕ) → k ≤ d → (x : State) → SearchLasts Any k (f x)) → (o : Option State) → SearchLasts Any d (handled_in s ball f o)
handled-lasts d s ball f each None = simple-lasts Any any-falls d (end (Raise ball)) (raise-lasts Any d ball)
handled-lasts d s ball f each (Some x) =
    sequence-lasts Any Any any-falls d (simple (settled s x)) f (simple-lasts Any any-falls d (settled s x) (settled-lasts d s x)) (λ k y m o. each k m y)

less-deep : (d k : ℕ) (f : Deeper) → k ≤ d → DeeperLasts d f → DeeperLasts k f
less-deep d k f h each j m t ts s = each j (omega (arith, m, h)) t ts s

catch-lasts : (preds : List PredTree) (r : TicksBetween preds) (f d : ℕ) (l : SearchLevel) → SearchLevelLasts preds r f l → (deeper : Deeper) → DeeperLasts d deeper → (ts : Trees) (s : State) →
    SearchLasts Any d (catch_called l deeper ts s)
catch-lasts preds r f d l last deeper each (tree g (tree ball (tree h no_trees))) s =
    caught-lasts Any any-falls d (sequence (call_goal l deeper g [] s) (λ x. (searches_at l).drained x)) (handling s ball (λ x. call_goal l deeper h [] x))
    (sequence-lasts Any Any any-falls d (call_goal l deeper g [] s) (λ x. (searches_at l).drained x) (goal-lasts preds r f d l last deeper each g [] s) (λ k x m o. (searches-last preds r f l last).drained k x))
    (λ k raised m. handled-lasts k s raised (λ x. call_goal l deeper h [] x) (λ j n x. goal-lasts preds r f j l last deeper (less-deep d j deeper (omega (arith, m, n)) each) h [] x)
    (unified (with_new_variables (new_variables raised) s) ball (copy (next s) raised)))
catch-lasts preds r f d l last deeper each no_trees s = done-search d
catch-lasts preds r f d l last deeper each (tree a no_trees) s = done-search d
catch-lasts preds r f d l last deeper each (tree a (tree b no_trees)) s = done-search d
catch-lasts preds r f d l last deeper each (tree a (tree b (tree c (tree e ts)))) s = done-search d

again-lasts : (preds : List PredTree) (r : TicksBetween preds) (f d : ℕ) (l : SearchLevel) → SearchLevelLasts preds r f l → (deeper : Deeper) → DeeperLasts d deeper → (ts : Trees) (s : State) →
    SearchLasts Any d (again_called l deeper ts s)
again-lasts preds r f d l last deeper each no_trees s = done-search d
again-lasts preds r f d l last deeper each (tree t ts) s = goal-lasts preds r f d l last deeper each t (each_tree ts) s

term-lasts : (v : View) (preds : List PredTree) (r : TicksBetween preds) (f d : ℕ) (l : SearchLevel) → d ≤ count_at l → SearchLevelLasts preds r f l → (deeper : Deeper) → DeeperLasts (d - 1) deeper →
    (t : Tree) (s : State) (o : Option Called) → SearchLasts Any d (term_called (alone v preds) l deeper t s o)
term-lasts v preds r f d l h last deeper each t s None = simple-lasts Any any-falls d (end (Raise (type_error (codes "callable") t s))) (raise-lasts Any d (type_error (codes "callable") t s))
term-lasts v preds r f d l h last deeper each t s (Some c) =
    cond-lasts d (is_catch c.name (tree_count c.args)) (ticked (catch_called l deeper c.args s)) (cond (is_call c.name (tree_count c.args)) (ticked (again_called l deeper c.args s)) (known_called (alone v preds) l c.name c.args s))
    (tick-lasts Any d (catch_called l deeper c.args s) (catch-lasts preds r f (d - 1) l last deeper each c.args s))
    (cond-lasts d (is_call c.name (tree_count c.args)) (ticked (again_called l deeper c.args s)) (known_called (alone v preds) l c.name c.args s)
    (tick-lasts Any d (again_called l deeper c.args s) (again-lasts preds r f (d - 1) l last deeper each c.args s)) (known-lasts v preds r f d l h last c.name c.args s))

at-level : (v : View) (preds : List PredTree) (r : TicksBetween preds) (l : SearchLevel) → SearchLevelLasts preds r (length preds) l → (d : ℕ) → d ≤ count_at l → (t : Tree) (more : List Tree) (s : State) →
    SearchLasts Any d (called_at_level (alone v preds) l t more s)
unfolding called_at_level SearchLevelLasts plain_level
at-level v preds r (bottom c) last d h t more s = none-search d _ h
at-level v preds r (above c l) last d h t more s =
    let most : (worth (plain_level l) ≤ counts (plain_level l)) × (counts (plain_level l) ≤ suc (worth (plain_level l))) = worth-counted (plain_level l) in
    term-lasts v preds r (length preds) d (above c l) h last (called_at_level (alone v preds) l)
    (λ k m u us x. at-level v preds r l last.1 k (omega (arith, h, m, most.0)) u us x) t s (called_by (followed (bindings s) t) more)

first-lasts : (v : View) (preds : List PredTree) (r : TicksBetween preds) (f d : ℕ) (l : SearchLevel) → d ≤ depth_of l → SearchLevelLasts preds r f l → (ts : Trees) (s : State) →
    SearchLasts Any d (first_called (alone v preds) l ts s)
unfolding first_called SearchLevelLasts plain_level
first-lasts v preds r f d l h last no_trees s = done-search d
first-lasts v preds r f d (bottom c) h last (tree t ts) s = none-search d too_deep h
first-lasts v preds r f d (above c l) h last (tree t ts) s = at-level v preds r l last.1 d h t (each_tree ts) s

-- ---- all names of the language, and queries

pub names-last : (v : View) (preds : List PredTree) (r : TicksBetween preds) → OffersLast preds r (all_names v built_searches preds)
names-last v preds r = record {
  predicates = λ f d l h last name ts s.
      some-lasts d (is_call name (tree_count ts)) (first_called (alone v preds) l ts s) (predicate_given (alone v preds) l name ts s) (first-lasts v preds r f d l h last ts s)
      (given-lasts v preds r f d l (omega (arith, h, (worth-counted (plain_level l)).0)) last name ts s);
  plain = whole-lasts v preds r;
}

-- a depth of twice n + 1 reaches to Tick number n + 1
pub resumed-reaches : (v : View) (program : List PredTree) (q : QueryTree) → TicksBetween (program ++ q.helpers) → (path : List ℕ) (n : ℕ) →
    (d : ℕ) × ResumedWithoutDeep n (resumed_query (all_names v built_searches (program ++ q.helpers)) program q d path)
resumed-reaches v program q r path n =
    let b : Offers = all_names v built_searches (program ++ q.helpers) in
    let s : Search Solution = query_search b program q (twice (suc n)) in
    let lasts : SearchLasts Any (suc n) s = query-lasts b program q r (names-last v (program ++ q.helpers) r) (suc n) in
    (twice (suc n), resumed-cut_lasts Any n (resumed_query b program q (twice (suc n)) path) (resumed-lasts Any (suc n) (s.follows path) (lasts.follows path)))
