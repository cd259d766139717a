-- Which calls a node is, and what the built-in ones come to.
use Rattle.std.proofs.Common.{◌≡◌, ℕ, List, [], ◌∷◌, Option, Some, None, refl, ap}
use Rattle.std.specs.Prelude.{codes}
use Rattle.pi_terms.specs.Tree.{Tree, tree_count}
use Rattle.pi_terms.specs.Places.{Places}
use Rattle.pi_constraints.specs.State.{State, bindings}
use Rattle.pi_meaning.specs.Shared.View.{View}
use Rattle.pi_constraints.specs.Unify.{unified}
use Rattle.pi_effects.specs.Effect.{succeeds_in}
use Rattle.pi_effects.specs.Exception.{thrown}
use Rattle.pi_effects.specs.Rows.{done_by}
use Rattle.pi_effects.specs.Comparing.{comparing_tests}
use Rattle.pi_effects.specs.Kinds.{kind_tests}
use Rattle.pi_effects.specs.Texts.{writing_predicates}
use Rattle.pi_effects.specs.BuiltIns.{tests, other_predicates, built_in_predicate}
use Rattle.pi_constraints.specs.Evaluation.{Evaluated, evaluated}
use Rattle.pi_core.specs.CoreTree.{PredTree}
use Rattle.pi_core.specs.GoalTree.{GoalTree, truth, fail, tick, call, apply, seq, alternatives, if_else, not, once, collect, count, catch, GoalTrees}
use Rattle.pi_core.specs.GoalCells.{kind_of}
use Rattle.pi_core.specs.declared.goal_node.GoalKind.{GoalKind}
use Rattle.pi_constraints.specs.Value.{value}
use Rattle.pi_engine_stands.specs.Makes.{raised_for}
use Rattle.pi_meaning.specs.Machine.Configuration.{Frame, Entry, Now, failed, raising, config, settling}
use Rattle.pi_meaning.specs.Machine.Step.{silently, done_now, goal_step, with_rest}

pub apply-of : (g : GoalTree) (name : List ℕ) (ts : List Tree) (into : ℕ) → GoalKind.Apply name ts into ≡ kind_of g → g ≡ apply name ts into
unfolding kind_of
apply-of truth n ts x h = absurd cc
apply-of fail n ts x h = absurd cc
apply-of tick n ts x h = absurd cc
apply-of (call name args) n ts x h = absurd cc
apply-of (apply name args slot) n ts x h = cc
apply-of (seq gs) n ts x h = absurd cc
apply-of (alternatives gs) n ts x h = absurd cc
apply-of (if_else test g other) n ts x h = absurd cc
apply-of (not g) n ts x h = absurd cc
apply-of (once g) n ts x h = absurd cc
apply-of (collect g value into) n ts x h = absurd cc
apply-of (count g into) n ts x h = absurd cc
apply-of (catch g ball handler) n ts x h = absurd cc

pub call-of : (g : GoalTree) (name : List ℕ) (ts : List Tree) → GoalKind.Call name ts ≡ kind_of g → g ≡ call name ts
unfolding kind_of
call-of truth n ts h = absurd cc
call-of fail n ts h = absurd cc
call-of tick n ts h = absurd cc
call-of (call name args) n ts h = cc
call-of (apply name args slot) n ts h = absurd cc
call-of (seq gs) n ts h = absurd cc
call-of (alternatives gs) n ts h = absurd cc
call-of (if_else test g other) n ts h = absurd cc
call-of (not g) n ts h = absurd cc
call-of (once g) n ts h = absurd cc
call-of (collect g value into) n ts h = absurd cc
call-of (count g into) n ts h = absurd cc
call-of (catch g ball handler) n ts h = absurd cc

pub catch-of : (g : GoalTree) (ball : Tree) → GoalKind.Catch ball ≡ kind_of g → (c : GoalTree) × (h : GoalTree) × (g ≡ catch c ball h)
unfolding kind_of
catch-of truth b h = absurd cc
catch-of fail b h = absurd cc
catch-of tick b h = absurd cc
catch-of (call name args) b h = absurd cc
catch-of (apply name args slot) b h = absurd cc
catch-of (seq gs) b h = absurd cc
catch-of (alternatives gs) b h = absurd cc
catch-of (if_else test g other) b h = absurd cc
catch-of (not g) b h = absurd cc
catch-of (once g) b h = absurd cc
catch-of (collect g value into) b h = absurd cc
catch-of (count g into) b h = absurd cc
catch-of (catch g ball handler) b h = (g, handler, cc)

-- ---- a unification

-- what follows a unification
abbrev pub after_equal : State → Option State → GoalTrees → Places → List Frame → Now
after_equal before None gs e k = failed
after_equal before (Some r) gs e k = settling before r gs e k

after-one : (v : View) (before : State) (o : Option State) (gs : GoalTrees) (e : Places) (k : List Frame) → done_now v before (succeeds_in o) gs e k ≡ after_equal before o gs e k
after-one v before None gs e k = refl
after-one v before (Some r) gs e k = refl

pub equal-comes-to : (v : View) (preds : List PredTree) (l r : Tree) (gs : GoalTrees) (e : Places) (s : State) (k : List Frame) (es : List Entry) →
    let x : Evaluated = evaluated l e s in
    let y : Evaluated = evaluated r x.slots x.state in
    goal_step v preds (call (codes "=") (l ∷ r ∷ [])) e s (with_rest gs k es) ≡ silently (config (after_equal y.state (unified y.state x.tree y.tree) gs y.slots k) es)
unfolding goal_step evaluated built_in_predicate tests comparing_tests kind_tests writing_predicates other_predicates done_by tree_count
equal-comes-to v preds l r gs e s k es =
    let x : Evaluated = evaluated l e s in
    let y : Evaluated = evaluated r x.slots x.state in
    ap (λ n. silently (config n es)) (after-one v y.state (unified y.state x.tree y.tree) gs y.slots k)

-- ---- an exception

pub throw-comes-to : (v : View) (preds : List PredTree) (t : Tree) (gs : GoalTrees) (e : Places) (s : State) (k : List Frame) (es : List Entry) →
    let x : Evaluated = evaluated t e s in
    goal_step v preds (call (codes "throw") (t ∷ [])) e s (with_rest gs k es) ≡ silently (config (raising (raised_for (value (bindings x.state) x.tree))) es)
unfolding goal_step evaluated built_in_predicate tests comparing_tests kind_tests writing_predicates other_predicates done_by tree_count thrown
throw-comes-to v preds t gs e s k es = refl
