-- What `call` calls lasts as long as its level counts, and so all names of the language do, with what is built of later stages.
use Rattle.std.proofs.Common.{◌≡◌, ℕ, suc, ◌-◌, ◌≤◌, Bool, true, false, cond, ◌||◌, List, [], length, refl, sym, ◌∙◌, ap, arith}
use Rattle.std.specs.Prelude.{Option, Some, None, option_map, is_some, codes}
use Rattle.std.specs.Option.{option_or}
use Rattle.pi_terms.specs.Tree.{Tree, atom, Trees, no_trees, tree, tree_count}
use Rattle.pi_terms.specs.Copy.{copy, new_variables}
use Rattle.pi_constraints.specs.State.{State, next, bindings, followed}
use Rattle.pi_constraints.specs.Unify.{unified}
use Rattle.pi_constraints.specs.Evaluation.{with_new_variables}
use Rattle.pi_core.specs.CoreTree.{PredTree, find_pred}
use Rattle.pi_effects.specs.Items.{each_tree}
use Rattle.pi_effects.specs.BuiltIns.{built_in_predicate, built_in_function, is_predicate}
use Rattle.pi_effects.specs.Exception.{type_error}
use Rattle.pi_settling.specs.Goals.{constraint_effect}
use Rattle.pi_settling.specs.DomainValues.{domain_function}
use Rattle.pi_traces.specs.Trace.{Trace, done, then}
use Rattle.pi_meaning.specs.Shared.View.{View}
use Rattle.pi_meaning.specs.Shared.Within.{Within, a_query, a_body, resource_left}
use Rattle.pi_meaning.specs.Shared.Level.{Level, lowest, over, calls_at, or_called}
use Rattle.pi_meaning.specs.Shared.Settle.{settled}
use Rattle.pi_meaning.specs.Shared.Names.{is_later_predicate, is_later_function, is_planner, is_resource, is_catch, is_call}
use Rattle.pi_meaning.specs.Shared.Builtin.{settled_effect, function_trace}
use Rattle.pi_meaning.specs.Shared.Handling.{handled_in, handling}
use Rattle.pi_meaning.specs.Shared.Given.{Setting}
use Rattle.pi_meaning.specs.Shared.Calls.{built_in, given_later, predicate_given, predicate_called, function_later, function_given, Called, called_by, unknown_name, with_planner, is_known, known_called, call_goal, catch_called, again_called, term_called, called_at_level, first_called}
use Rattle.pi_meaning.specs.CoreMeaning.Instances.{is_called_by_name, core_setting, solve_or_unknown, built_later, whole}
use Rattle.pi_meaning.specs.CoreMeaning.Quiet.{TicksBetween}
use Rattle.pi_traces.proofs.LastLemmas.{Lasts, Any, any-falls, less-left, done-lasts, raise-lasts, one-lasts, then-lasts, caught-lasts}
use Rattle.pi_meaning.proofs.CoreMeaning.QuietSolve.{at-most-none, unknown-lasts, or-else-lasts, tick-lasts, solve-lasts}
use Rattle.pi_meaning.proofs.Shared.KnownLemmas.{given-known, planner-later}
use Rattle.pi_meaning.proofs.CoreMeaning.QuietGoals.{worth, counted, worth-counted, LevelLasts, calls-last, OptionLasts, option-lasts, settled-lasts, settled-effect-lasts, gave-lasts, BuiltinsLast}

cond-lasts : {A : Type 0} (d : ℕ) (c : Bool) (t u : Trace A) → Lasts Any d t → Lasts Any d u → Lasts Any d (cond c t u)
cond-lasts d true t u a b = a
cond-lasts d false t u a b = b

or-lasts : {A : Type 0} (d : ℕ) (o p : Option (Trace A)) → OptionLasts d o → OptionLasts d p → OptionLasts d (option_or o p)
or-lasts d None p a b = b
or-lasts d (Some t) p a b = a

some-lasts : {A : Type 0} (d : ℕ) (c : Bool) (t : Trace A) (o : Option (Trace A)) → Lasts Any d t → OptionLasts d o → OptionLasts d (cond c (Some t) o)
some-lasts d true t o a b = a
some-lasts d false t o a b = b

-- ---- what a name does by itself

abbrev alone : View → List PredTree → Setting
alone v preds = core_setting v built_later preds

pub built-predicate-lasts : (preds : List PredTree) (r : TicksBetween preds) (f d : ℕ) (l : Level) → d ≤ counted l → LevelLasts preds r f l → (v : View) (name : List ℕ) (ts : Trees) (s : State) →
    Lasts Any d (built_later.predicate v l name ts s)
built-predicate-lasts preds r f d l h last v name ts s =
    or-else-lasts d (option_map (settled_effect v s) (constraint_effect name ts s)) (solve_or_unknown l name ts s) (option-lasts d (settled_effect v s) (settled-effect-lasts d v s) (constraint_effect name ts s))
    (solve-lasts preds r f d l h last name ts s)

given-lasts : (v : View) (preds : List PredTree) (r : TicksBetween preds) (f d : ℕ) (l : Level) → d ≤ counted l → LevelLasts preds r f l → (name : List ℕ) (ts : Trees) (s : State) →
    OptionLasts d (predicate_given (alone v preds) l name ts s)
unfolding predicate_given
given-lasts v preds r f d l h last name ts s =
    or-lasts d (built_in (alone v preds) name ts s) (given_later (alone v preds) l name ts s) (option-lasts d (settled_effect v s) (settled-effect-lasts d v s) (built_in_predicate name ts s))
    (some-lasts d (is_later_predicate name (tree_count ts)) (built_later.predicate v l name ts s) None (built-predicate-lasts preds r f d l h last v name ts s) tt)

resource-lasts : (d : ℕ) (within : Within) (s : State) → Lasts Any d (resource_left within s)
resource-lasts d a_query s = raise-lasts Any d (atom (codes "no_resource"))
resource-lasts d (a_body n) s = one-lasts Any d _ tt

function-given-lasts : (v : View) (preds : List PredTree) (d : ℕ) (name : List ℕ) (ts : Trees) (s : State) → OptionLasts d (function_given (alone v preds) name ts s)
unfolding function_given
function-given-lasts v preds d name ts s =
    or-lasts d (option_map function_trace (built_in_function name ts s)) (function_later (alone v preds) name ts s) (option-lasts d function_trace (gave-lasts d) (built_in_function name ts s))
    (some-lasts d (is_resource name (tree_count ts)) (resource_left v.within s) _ (resource-lasts d v.within s)
    (some-lasts d (is_later_function name (tree_count ts)) (built_later.function name ts s) None
    (or-else-lasts d (option_map function_trace (domain_function name ts s)) done (option-lasts d function_trace (gave-lasts d) (domain_function name ts s)) (done-lasts Any d)) tt))

-- ---- calls by name

-- a name that does nothing by itself is found
Finds : View → List PredTree → Level → List ℕ → Trees → State → Type 0
Finds v preds l name ts s = predicate_given (alone v preds) l name ts s ≡ None → is_called_by_name (find_pred false name (tree_count ts) preds) ≡ true

called-lasts : (preds : List PredTree) (r : TicksBetween preds) (f d : ℕ) (l : Level) → d ≤ counted l → LevelLasts preds r f l → (name : List ℕ) (ts : Trees) (s : State) →
    (o : Option (Trace State)) → OptionLasts d o → (o ≡ None → is_called_by_name (find_pred false name (tree_count ts) preds) ≡ true) → Lasts Any d (or_called o l name ts s)
called-lasts preds r f d l h last name ts s None a found =
    less-left Any any-falls (counted l) d h ((calls_at l).called name ts s) ((calls-last preds r f l last).loud name ts s (found refl))
called-lasts preds r f d l h last name ts s (Some t) a found = a

predicate-lasts : (v : View) (preds : List PredTree) (r : TicksBetween preds) (f d : ℕ) (l : Level) → d ≤ counted l → LevelLasts preds r f l → (name : List ℕ) (ts : Trees) (s : State) →
    Finds v preds l name ts s → Lasts Any d (predicate_called (alone v preds) l name ts s)
unfolding predicate_called Finds
predicate-lasts v preds r f d l h last name ts s found =
    called-lasts preds r f d l h last name ts s (predicate_given (alone v preds) l name ts s) (given-lasts v preds r f d l h last name ts s) found

-- a name that is given, or that the program has
known-finds : (v : View) (preds : List PredTree) (l : Level) (name : List ℕ) (ts : Trees) (s : State) → is_known (alone v preds) name (tree_count ts) ≡ true → Finds v preds l name ts s
unfolding Finds
known-finds v preds l name ts s known none =
    go (is_predicate name (tree_count ts)) (is_later_predicate name (tree_count ts)) (is_called_by_name (find_pred false name (tree_count ts) preds))
    (sym (given-known (alone v preds) l name ts s) ∙ ap is_some none) known
  where
    go : (table later own : Bool) → (table || later) ≡ false → (table || (later || own)) ≡ true → own ≡ true
    go true later own given is = absurd cc
    go false true own given is = absurd cc
    go false false own given is = is

later-finds : (v : View) (preds : List PredTree) (l : Level) (name : List ℕ) (ts : Trees) (s : State) → is_later_predicate name (tree_count ts) ≡ true → Finds v preds l name ts s
unfolding Finds
later-finds v preds l name ts s later none =
    go (is_predicate name (tree_count ts)) (is_later_predicate name (tree_count ts)) (sym (given-known (alone v preds) l name ts s) ∙ ap is_some none) later
  where
    go : (table given : Bool) → (table || given) ≡ false → given ≡ true → is_called_by_name (find_pred false name (tree_count ts) preds) ≡ true
    go true given none is = absurd cc
    go false true none is = absurd cc
    go false false none is = absurd cc

known-lasts : (v : View) (preds : List PredTree) (r : TicksBetween preds) (f d : ℕ) (l : Level) → d ≤ counted l → LevelLasts preds r f l → (name : List ℕ) (ts : Trees) (s : State) →
    Lasts Any d (known_called (alone v preds) l name ts s)
known-lasts v preds r f d l h last name ts s = planner (is_planner name k) refl
  where
    k : ℕ
    k = tree_count ts

    called : Trace State
    called = predicate_called (alone v preds) l name ts s

    known : (c : Bool) → is_known (alone v preds) name k ≡ c → Lasts Any d (cond c called (unknown_name name k))
    known true is = predicate-lasts v preds r f d l h last name ts s (known-finds v preds l name ts s is)
    known false is = unknown-lasts d name k

    planner : (c : Bool) → is_planner name k ≡ c → Lasts Any d (cond c (with_planner (alone v preds) called) (cond (is_known (alone v preds) name k) called (unknown_name name k)))
    planner true is =
        cond-lasts d ((alone v preds).defines (codes "final") 1) _ _
        (cond-lasts d ((alone v preds).defines (codes "action") 4) called _ (predicate-lasts v preds r f d l h last name ts s (later-finds v preds l name ts s (planner-later name k is))) (unknown-lasts d (codes "action") 4))
        (unknown-lasts d (codes "final") 1)
    planner false is = known (is_known (alone v preds) name k) refl

-- ---- `call`

abbrev Deeper : Type 0
Deeper = Tree → List Tree → State → Trace State

-- what `call` leads to one level down lasts
abbrev DeeperLasts : ℕ → Deeper → Type 0
DeeperLasts d f = (k : ℕ) → k ≤ d → (t : Tree) (ts : List Tree) (s : State) → Lasts Any k (f t ts s)

goal-lasts : (preds : List PredTree) (r : TicksBetween preds) (f d : ℕ) (l : Level) → LevelLasts preds r f l → (deeper : Deeper) → DeeperLasts d deeper → (t : Tree) (more : List Tree) (s : State) →
    Lasts Any d (call_goal l deeper t more s)
goal-lasts preds r f d l last deeper each t more s =
    then-lasts Any Any any-falls d ((calls_at l).drained s) (λ x. deeper t more x) ((calls-last preds r f l last).drained d s) (λ k x m o. each k m t more x)

handled-lasts : (d : ℕ) (s : State) (ball : Tree) (f : State → Trace State) → ((k : ℕ) → k ≤ d → (x : State) → Lasts Any k (f x)) → (o : Option State) → Lasts Any d (handled_in s ball f o)
handled-lasts d s ball f each None = raise-lasts Any d ball
handled-lasts d s ball f each (Some x) = then-lasts Any Any any-falls d (settled s x) f (settled-lasts d s x) (λ k y m o. each k m y)

less-deep : (d k : ℕ) (f : Deeper) → k ≤ d → DeeperLasts d f → DeeperLasts k f
less-deep d k f h each j m t ts s = each j (omega (arith, m, h)) t ts s

catch-lasts : (preds : List PredTree) (r : TicksBetween preds) (f d : ℕ) (l : Level) → LevelLasts preds r f l → (deeper : Deeper) → DeeperLasts d deeper → (ts : Trees) (s : State) →
    Lasts Any d (catch_called l deeper ts s)
catch-lasts preds r f d l last deeper each (tree g (tree ball (tree h no_trees))) s =
    caught-lasts Any d (then (call_goal l deeper g [] s) (λ x. (calls_at l).drained x)) (handling s ball (λ x. call_goal l deeper h [] x))
    (then-lasts Any Any any-falls d (call_goal l deeper g [] s) (λ x. (calls_at l).drained x) (goal-lasts preds r f d l last deeper each g [] s) (λ k x m o. (calls-last preds r f l last).drained k x))
    (λ k raised m. handled-lasts k s raised (λ x. call_goal l deeper h [] x) (λ j n x. goal-lasts preds r f j l last deeper (less-deep d j deeper (omega (arith, m, n)) each) h [] x)
    (unified (with_new_variables (new_variables raised) s) ball (copy (next s) raised)))
catch-lasts preds r f d l last deeper each no_trees s = done-lasts Any d
catch-lasts preds r f d l last deeper each (tree a no_trees) s = done-lasts Any d
catch-lasts preds r f d l last deeper each (tree a (tree b no_trees)) s = done-lasts Any d
catch-lasts preds r f d l last deeper each (tree a (tree b (tree c (tree e ts)))) s = done-lasts Any d

again-lasts : (preds : List PredTree) (r : TicksBetween preds) (f d : ℕ) (l : Level) → LevelLasts preds r f l → (deeper : Deeper) → DeeperLasts d deeper → (ts : Trees) (s : State) →
    Lasts Any d (again_called l deeper ts s)
again-lasts preds r f d l last deeper each no_trees s = done-lasts Any d
again-lasts preds r f d l last deeper each (tree t ts) s = goal-lasts preds r f d l last deeper each t (each_tree ts) s

term-lasts : (v : View) (preds : List PredTree) (r : TicksBetween preds) (f d : ℕ) (l : Level) → d ≤ counted l → LevelLasts preds r f l → (deeper : Deeper) → DeeperLasts (d - 1) deeper →
    (t : Tree) (s : State) (o : Option Called) → Lasts Any d (term_called (alone v preds) l deeper t s o)
term-lasts v preds r f d l h last deeper each t s None = raise-lasts Any d (type_error (codes "callable") t s)
term-lasts v preds r f d l h last deeper each t s (Some c) =
    cond-lasts d (is_catch c.name (tree_count c.args)) _ _ (tick-lasts d (catch_called l deeper c.args s) (catch-lasts preds r f (d - 1) l last deeper each c.args s))
    (cond-lasts d (is_call c.name (tree_count c.args)) _ _ (tick-lasts d (again_called l deeper c.args s) (again-lasts preds r f (d - 1) l last deeper each c.args s))
    (known-lasts v preds r f d l h last c.name c.args s))

at-level-lasts : (v : View) (preds : List PredTree) (r : TicksBetween preds) (l : Level) → LevelLasts preds r (length preds) l → (d : ℕ) → d ≤ counted l → (t : Tree) (more : List Tree) (s : State) →
    Lasts Any d (called_at_level (alone v preds) l t more s)
unfolding called_at_level
at-level-lasts v preds r (lowest c) last d h t more s = at-most-none d _ h
at-level-lasts v preds r (over c l) last d h t more s =
    let most : (worth l ≤ counted l) × (counted l ≤ suc (worth l)) = worth-counted l in
    term-lasts v preds r (length preds) d (over c l) h last (called_at_level (alone v preds) l)
    (λ k m u us x. at-level-lasts v preds r l last.1 k (omega (arith, h, m, most.0)) u us x) t s (called_by (followed (bindings s) t) more)

first-lasts : (v : View) (preds : List PredTree) (r : TicksBetween preds) (f d : ℕ) (l : Level) → d ≤ worth l → LevelLasts preds r f l → (ts : Trees) (s : State) →
    Lasts Any d (first_called (alone v preds) l ts s)
unfolding first_called
first-lasts v preds r f d l h last no_trees s = done-lasts Any d
first-lasts v preds r f d (lowest c) h last (tree t ts) s = at-most-none d _ h
first-lasts v preds r f d (over c l) h last (tree t ts) s = at-level-lasts v preds r l last.1 d h t (each_tree ts) s

-- ---- all names of the language

pub whole-lasts : (v : View) (preds : List PredTree) (r : TicksBetween preds) → BuiltinsLast preds r (whole v built_later preds)
whole-lasts v preds r = record {
  predicates = λ f d l h last name ts s.
      some-lasts d (is_call name (tree_count ts)) (first_called (alone v preds) l ts s) (predicate_given (alone v preds) l name ts s) (first-lasts v preds r f d l h last ts s)
      (given-lasts v preds r f d l (omega (arith, h, (worth-counted l).0)) last name ts s);
  functions = λ d l name ts s. function-given-lasts v preds d name ts s;
}
