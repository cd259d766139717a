-- Calls by name do the same at two levels at which calls of what a program has do the same.
use Rattle.std.proofs.Common.{◌≡◌, ℕ, Bool, true, false, cond, List, [], refl, sym, ◌∙◌, ap}
use Rattle.std.specs.Prelude.{Option, Some, None, ◌||◌, IsTrue, is_some, option_map}
use Rattle.std.specs.Option.{option_or}
use Rattle.std.proofs.lemmas.Bool.{false≢true}
use Rattle.pi_terms.specs.Tree.{Tree, Trees, no_trees, tree, tree_count}
use Rattle.pi_constraints.specs.State.{State, bindings, followed}
use Rattle.pi_effects.specs.Items.{each_tree}
use Rattle.pi_effects.specs.BuiltIns.{built_in_predicate, built_in_function, is_predicate, is_function}
use Rattle.pi_effects.proofs.BuiltInLemmas.{functions-listed, predicates-listed}
use Rattle.pi_core.specs.CoreTree.{PredTree, find_pred}
use Rattle.pi_traces.specs.Trace.{Trace, end, note, Deep, Tick, one, then}
use Rattle.pi_traces.specs.Control.{caught}
use Rattle.pi_meaning.specs.Shared.View.{View}
use Rattle.pi_meaning.specs.Shared.Level.{Level, lowest, over, Applied, calls_at, or_called, or_applied}
use Rattle.pi_meaning.specs.Shared.Builtin.{settled_effect, function_trace}
use Rattle.pi_meaning.specs.Shared.Names.{is_later_predicate, is_later_function, is_planner, is_resource, is_catch, is_call, is_given_function}
use Rattle.pi_meaning.specs.Shared.Given.{Later, Setting}
use Rattle.pi_meaning.specs.Shared.Handling.{handling}
use Rattle.pi_meaning.specs.Shared.Calls.{built_in, given_later, predicate_given, predicate_called, function_later, function_given, function_called, Called, called_by, unknown_name, with_planner, is_known, known_called, catch_called, again_called, term_called, called_at_level, first_called}
use Rattle.pi_meaning.specs.CoreMeaning.Instances.{is_called_by_name, core_setting, whole}
use Rattle.pi_meaning.proofs.Shared.KnownLemmas.{planner-later}
use Rattle.pi_rewrite_spec.specs.Forms.{Knows}
use Rattle.pi_rewrite_laws.specs.Levels.{SameCalls, SameLevels, GoesByCalls}
use Rattle.pi_rewrite_spec.proofs.RunLemmas.{Alike}

pub calls-same : (known : Knows) (l m : Level) → SameLevels known l m → SameCalls known (calls_at l) (calls_at m)
unfolding SameLevels
calls-same known (lowest c) (lowest d) is = is
calls-same known (lowest c) (over d m) is = absurd is
calls-same known (over c l) (lowest d) is = absurd is
calls-same known (over c l) (over d m) is = is.0

-- ---- predicates

no-map : {A B : Type 0} (f : A → B) (o : Option A) → option_map f o ≡ None → o ≡ None
no-map f None is = refl
no-map f (Some x) is = absurd cc

no-first : {A : Type 0} (o p : Option A) → option_or o p ≡ None → o ≡ None
no-first None p is = refl
no-first (Some x) p is = absurd cc

no-second : {A : Type 0} (o p : Option A) → option_or o p ≡ None → p ≡ None
no-second None p is = is
no-second (Some x) p is = absurd cc

no-cond : {A : Type 0} (c : Bool) (x : A) (o : Option A) → cond c (Some x) o ≡ None → (c ≡ false) × (o ≡ None)
no-cond true x o is = absurd cc
no-cond false x o is = (refl, is)

-- a name that does nothing by itself is none of those
nothing-given : (set : Setting) (m : Level) (name : List ℕ) (ts : Trees) (s : State) → predicate_given set m name ts s ≡ None → is_predicate name (tree_count ts) || is_later_predicate name (tree_count ts) ≡ false
unfolding predicate_given
nothing-given set m name ts s is =
    ap (λ c. c || is_later_predicate name (tree_count ts)) (sym (predicates-listed name ts s) ∙ ap is_some (no-map (settled_effect set.view s) (built_in_predicate name ts s) (no-first (built_in set name ts s) (given_later set m name ts s) is)))
    ∙ (no-cond (is_later_predicate name (tree_count ts)) _ None (no-second (built_in set name ts s) (given_later set m name ts s) is)).0

given-same : (known : Knows) (set : Setting) → GoesByCalls known set.later → (l m : Level) → SameLevels known l m → (name : List ℕ) (ts : Trees) (s : State) → predicate_given set l name ts s ≡ predicate_given set m name ts s
unfolding predicate_given
given-same known set goes l m same name ts s =
    ap (λ (t : Trace State). option_or (built_in set name ts s) (cond (is_later_predicate name (tree_count ts)) (Some t) None)) (goes set.view l m same name ts s)

called-same : (known : Knows) (set : Setting) → GoesByCalls known set.later → (l m : Level) → SameLevels known l m → (name : List ℕ) (ts : Trees) (s : State) →
    IsTrue ((is_predicate name (tree_count ts) || is_later_predicate name (tree_count ts)) || known.predicate name (tree_count ts)) → predicate_called set l name ts s ≡ predicate_called set m name ts s
unfolding predicate_called
called-same known set goes l m same name ts s there =
    ap (λ (o : Option (Trace State)). or_called o l name ts s) (given-same known set goes l m same name ts s) ∙ go (predicate_given set m name ts s) refl
  where
    own : (a c : Bool) → a ≡ false → IsTrue (a || c) → IsTrue c
    own true c is h = absurd (false≢true (sym is))
    own false c is h = h

    go : (o : Option (Trace State)) → predicate_given set m name ts s ≡ o → or_called o l name ts s ≡ or_called o m name ts s
    go (Some t) is = refl
    go None is = (calls-same known l m same).called name ts s (own (is_predicate name (tree_count ts) || is_later_predicate name (tree_count ts)) (known.predicate name (tree_count ts)) (nothing-given set m name ts s is) there)

-- ---- `call`

-- what names do that `call` finds
known-same : (known : Knows) (set : Setting) → GoesByCalls known set.later → ((name : List ℕ) (k : ℕ) → set.defines name k ≡ known.predicate name k) → (l m : Level) → SameLevels known l m → (name : List ℕ) (ts : Trees) (s : State) →
    known_called set l name ts s ≡ known_called set m name ts s
known-same known set goes defines l m same name ts s = planner (is_planner name k) refl
  where
    k : ℕ
    k = tree_count ts

    by-test : (c : Bool) → is_known set name k ≡ c → cond c (predicate_called set l name ts s) (unknown_name name k) ≡ cond c (predicate_called set m name ts s) (unknown_name name k)
    by-test true is =
        called-same known set goes l m same name ts s (ap (λ c. (is_predicate name k || is_later_predicate name k) || c) (sym (defines name k)) ∙ grouped (is_predicate name k) (is_later_predicate name k) (set.defines name k) ∙ is)
      where
        grouped : (a b c : Bool) → (a || b) || c ≡ a || (b || c)
        grouped true b c = refl
        grouped false b c = refl
    by-test false is = refl

    otherwise : cond (is_known set name k) (predicate_called set l name ts s) (unknown_name name k) ≡ cond (is_known set name k) (predicate_called set m name ts s) (unknown_name name k)
    otherwise =
        ap (λ c. cond c (predicate_called set l name ts s) (unknown_name name k)) refl ∙ by-test (is_known set name k) refl

    planner : (c : Bool) → is_planner name k ≡ c → cond c (with_planner set (predicate_called set l name ts s)) (cond (is_known set name k) (predicate_called set l name ts s) (unknown_name name k))
        ≡ cond c (with_planner set (predicate_called set m name ts s)) (cond (is_known set name k) (predicate_called set m name ts s) (unknown_name name k))
    planner true is = ap (with_planner set) (called-same known set goes l m same name ts s (later (is_predicate name k) (is_later_predicate name k) (known.predicate name k) (planner-later name k is)))
      where
        later : (a b c : Bool) → b ≡ true → IsTrue ((a || b) || c)
        later true b c is = refl
        later false true c is = refl
        later false false c is = absurd (false≢true is)
    planner false is = otherwise

abbrev Deeper : Type 0
Deeper = Tree → List Tree → State → Trace State

abbrev goal_with : (State → Trace State) → Deeper → Tree → List Tree → State → Trace State
goal_with drained deeper t more s = then (drained s) (λ r. deeper t more r)

catch-same : (l m : Level) (f g : Deeper) → (calls_at l).drained ≡ (calls_at m).drained → f ≡ g → (ts : Trees) (s : State) → catch_called l f ts s ≡ catch_called m g ts s
catch-same l m f g drains deeper no_trees s = refl
catch-same l m f g drains deeper (tree a no_trees) s = refl
catch-same l m f g drains deeper (tree a (tree c no_trees)) s = refl
catch-same l m f g drains deeper (tree a (tree c (tree h no_trees))) s =
    ap (λ (d : State → Trace State). caught (then (goal_with d f a [] s) (λ r. d r)) (handling s c (λ r. goal_with d f h [] r))) drains
    ∙ ap (λ (e : Deeper). caught (then (goal_with (calls_at m).drained e a [] s) (λ r. (calls_at m).drained r)) (handling s c (λ r. goal_with (calls_at m).drained e h [] r))) deeper
catch-same l m f g drains deeper (tree a (tree c (tree h (tree x ts)))) s = refl

again-same : (l m : Level) (f g : Deeper) → (calls_at l).drained ≡ (calls_at m).drained → f ≡ g → (ts : Trees) (s : State) → again_called l f ts s ≡ again_called m g ts s
again-same l m f g drains deeper no_trees s = refl
again-same l m f g drains deeper (tree t ts) s =
    ap (λ (d : State → Trace State). goal_with d f t (each_tree ts) s) drains ∙ ap (λ (e : Deeper). goal_with (calls_at m).drained e t (each_tree ts) s) deeper

term-same : (known : Knows) (set : Setting) → GoesByCalls known set.later → ((name : List ℕ) (k : ℕ) → set.defines name k ≡ known.predicate name k) → (l m : Level) → SameLevels known l m → (f g : Deeper) → f ≡ g → (t : Tree) (s : State) (o : Option Called) →
    term_called set l f t s o ≡ term_called set m g t s o
term-same known set goes defines l m same f g deeper t s None = refl
term-same known set goes defines l m same f g deeper t s (Some c) =
    ap (λ (u : Trace State). cond (is_catch c.name (tree_count c.args)) (note Tick u) (cond (is_call c.name (tree_count c.args)) (note Tick (again_called l f c.args s)) (known_called set l c.name c.args s))) (catch-same l m f g drains deeper c.args s)
    ∙ ap (λ (u : Trace State). cond (is_catch c.name (tree_count c.args)) (note Tick (catch_called m g c.args s)) (cond (is_call c.name (tree_count c.args)) (note Tick u) (known_called set l c.name c.args s))) (again-same l m f g drains deeper c.args s)
    ∙ ap (λ (u : Trace State). cond (is_catch c.name (tree_count c.args)) (note Tick (catch_called m g c.args s)) (cond (is_call c.name (tree_count c.args)) (note Tick (again_called m g c.args s)) u)) (known-same known set goes defines l m same c.name c.args s)
  where
    drains : (calls_at l).drained ≡ (calls_at m).drained
    drains = λ i r. (calls-same known l m same).drained r i

called-at : (known : Knows) (set : Setting) → GoesByCalls known set.later → ((name : List ℕ) (k : ℕ) → set.defines name k ≡ known.predicate name k) → (l m : Level) → SameLevels known l m → (t : Tree) (more : List Tree) (s : State) →
    called_at_level set l t more s ≡ called_at_level set m t more s
unfolding called_at_level SameLevels
called-at known set goes defines (lowest c) (lowest d) same t more s =
    term-same known set goes defines (lowest c) (lowest d) same (λ u us r. end Deep) (λ u us r. end Deep) refl t s (called_by (followed (bindings s) t) more)
called-at known set goes defines (lowest c) (over d m) same t more s = absurd same
called-at known set goes defines (over c l) (lowest d) same t more s = absurd same
called-at known set goes defines (over c l) (over d m) same t more s =
    term-same known set goes defines (over c l) (over d m) same (called_at_level set l) (called_at_level set m) (λ i u us r. called-at known set goes defines l m same.1 u us r i) t s (called_by (followed (bindings s) t) more)

first-same : (known : Knows) (set : Setting) → GoesByCalls known set.later → ((name : List ℕ) (k : ℕ) → set.defines name k ≡ known.predicate name k) → (l m : Level) → SameLevels known l m → (ts : Trees) (s : State) →
    first_called set l ts s ≡ first_called set m ts s
unfolding first_called SameLevels
first-same known set goes defines l m same no_trees s = refl
first-same known set goes defines (lowest c) (lowest d) same (tree t ts) s = refl
first-same known set goes defines (lowest c) (over d m) same (tree t ts) s = absurd same
first-same known set goes defines (over c l) (lowest d) same (tree t ts) s = absurd same
first-same known set goes defines (over c l) (over d m) same (tree t ts) s = called-at known set goes defines l m same.1 t (each_tree ts) s

-- ---- functions

no-function : (set : Setting) (name : List ℕ) (ts : Trees) (s : State) → function_given set name ts s ≡ None → is_given_function name (tree_count ts) ≡ false
unfolding function_given
no-function set name ts s is =
    let none : is_function name k ≡ false = sym (functions-listed name ts s) ∙ ap is_some (no-map function_trace (built_in_function name ts s) (no-first (option_map function_trace (built_in_function name ts s)) (function_later set name ts s) is)) in
    let first : (is_resource name k ≡ false) × (cond (is_later_function name k) (Some (set.later.function name ts s)) None ≡ None) =
    no-cond (is_resource name k) _ _ (no-second (option_map function_trace (built_in_function name ts s)) (function_later set name ts s) is) in
    let second : is_later_function name k ≡ false = (no-cond (is_later_function name k) (set.later.function name ts s) None first.1).0 in
    ap (λ c. c || (is_resource name k || is_later_function name k)) none ∙ ap (λ c. c || is_later_function name k) first.0 ∙ second
  where
    k : ℕ
    k = tree_count ts

function-same : (known : Knows) (set : Setting) (l m : Level) → SameLevels known l m → (name : List ℕ) (ts : Trees) (s : State) → IsTrue (is_given_function name (tree_count ts) || known.function name (tree_count ts)) →
    function_called set l name ts s ≡ function_called set m name ts s
unfolding function_called
function-same known set l m same name ts s there = go (function_given set name ts s) refl
  where
    own : (a c : Bool) → a ≡ false → IsTrue (a || c) → IsTrue c
    own true c is h = absurd (false≢true (sym is))
    own false c is h = h

    go : (o : Option (Trace Applied)) → function_given set name ts s ≡ o → or_applied o l name ts s ≡ or_applied o m name ts s
    go (Some t) is = refl
    go None is = (calls-same known l m same).applied name ts s (own (is_given_function name (tree_count ts)) (known.function name (tree_count ts)) (no-function set name ts s is) there)

-- ---- all of it

pub alike-levels : (known : Knows) (v : View) (later : Later) (preds : List PredTree) (defines : List ℕ → ℕ → Bool) → GoesByCalls known later → ((name : List ℕ) (k : ℕ) → defines name k ≡ known.predicate name k) →
    ((name : List ℕ) (k : ℕ) → is_called_by_name (find_pred false name k preds) ≡ known.predicate name k) → (l m : Level) → SameLevels known l m → ((s : State) → (calls_at l).drained s ≡ one s) → ((s : State) → (calls_at m).drained s ≡ one s) →
    Alike known (record { view = v; later = later; defines = defines }) (whole v later preds) l m
unfolding function_called predicate_called
alike-levels known v later preds defines goes named called l m same core names = record {
  core_drains = core;
  names_drain = names;
  predicates = λ name ts s apart there.
      ap (λ (c : Bool). or_called (cond c (Some (first_called cs l ts s)) (predicate_given cs l name ts s)) l name ts s) apart
      ∙ ap (λ (x : Setting). predicate_called x l name ts s) settings
      ∙ called-same known set goes l m same name ts s (without (is_call name (tree_count ts)) (is_predicate name (tree_count ts) || is_later_predicate name (tree_count ts)) (known.predicate name (tree_count ts)) apart there);
  terms = λ name ts s is.
      ap (λ (c : Bool). or_called (cond c (Some (first_called cs l ts s)) (predicate_given cs l name ts s)) l name ts s) is
      ∙ ap (λ (x : Setting). first_called x l ts s) settings
      ∙ first-same known set goes named l m same ts s;
  functions = λ name ts s there. ap (λ (x : Setting). function_called x l name ts s) settings ∙ function-same known set l m same name ts s there;
}
  where
    cs : Setting
    cs = core_setting v later preds

    set : Setting
    set = record { view = v; later = later; defines = defines }

    settings : cs ≡ set
    settings = ap (λ (d : List ℕ → ℕ → Bool). record { view = v; later = later; defines = d }) (λ i name k. (called name k ∙ sym (named name k)) i)

    without : (a c d : Bool) → a ≡ false → IsTrue ((a || c) || d) → IsTrue (c || d)
    without true c d is h = absurd (false≢true (sym is))
    without false c d is h = h
