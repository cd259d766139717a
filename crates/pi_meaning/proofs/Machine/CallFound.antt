-- What a call of a predicate, of a function, of what is built and of `solve` comes to.
use Rattle.std.proofs.Common.{◌≡◌, ℕ, ◌||◌, Bool, true, false, List, [], length, Some, refl, sym, ◌∙◌, ap}
use Rattle.std.specs.Prelude.{is_some}
use Rattle.pi_terms.specs.Tree.{Tree, Trees, tree_count, trees_of}
use Rattle.pi_terms.specs.Places.{Places}
use Rattle.pi_constraints.specs.State.{State}
use Rattle.pi_meaning.specs.Shared.View.{View}
use Rattle.pi_effects.specs.Effect.{Effect, FunctionEffect}
use Rattle.pi_effects.specs.BuiltIns.{is_predicate, is_function}
use Rattle.pi_core.specs.CoreTree.{PredTree, find_pred}
use Rattle.pi_core.specs.GoalTree.{GoalTrees, call, apply}
use Rattle.pi_constraints.specs.Evaluation.{EvaluatedAll, evaluated_all}
use Rattle.pi_meaning.specs.Shared.Effects.{predicate_effect, value_effect}
use Rattle.pi_meaning.specs.Shared.Names.{is_later_predicate, is_later_function, is_resource, is_call, is_given}
use Rattle.pi_meaning.proofs.Shared.EffectNames.{effects-listed, no-effect, no-value, not-given-effect, not-given-value, effect-no_call}
use Rattle.pi_settling.specs.SolveCalls.{solve_asked, is_solve}
use Rattle.pi_constraints.proofs.KeepsLemmas.{TreesBelow}
use Rattle.pi_meaning.proofs.Machine.EvaluationLemmas.{arguments-filled}
use Rattle.pi_meaning.proofs.Machine.SolveNames.{solve-later, solve-no_call, solve-no_effect}
use Rattle.pi_meaning.specs.Machine.Configuration.{Frame, Entry, config, behind, returning}
use Rattle.pi_meaning.specs.Machine.Step.{silently, deeper, first_now, done_now, given_now, call_step, predicate_step, function_step, later_step, effect_step, name_step, later_value, other_value, value_step, try_clauses, goal_step, back_to, with_rest, name_call, solve_step, again_by, again}

-- what is built isn't `call`
pub no-call : (name : List ℕ) (ts : Trees) (s : State) (d : Effect) → predicate_effect name ts s ≡ Some d → is_call name (tree_count ts) ≡ false
no-call name ts s d is = effect-no_call name (tree_count ts) (sym (effects-listed name ts s) ∙ ap is_some is)

neither : (a b : Bool) → (a || b) ≡ false → (a ≡ false) × (b ≡ false)
neither true b h = absurd cc
neither false b h = (refl, h)

pub call-comes-to : (v : View) (preds : List PredTree) (name : List ℕ) (args : List Tree) (pred : PredTree) (gs : GoalTrees) (e : Places) (s : State) (k : List Frame) (es : List Entry) →
    let all : EvaluatedAll = evaluated_all (trees_of args) e s in
    is_given false name (tree_count all.trees) ≡ false → find_pred false name (tree_count all.trees) preds ≡ Some pred →
    goal_step v preds (call name args) e s (with_rest gs k es) ≡ call_step pred.quiet (try_clauses pred.index pred.clauses all.trees (back_to [] all.state (returning all.slots (behind gs k))) es)
unfolding goal_step
call-comes-to v preds name args pred gs e s k es none found =
    let all : EvaluatedAll = evaluated_all (trees_of args) e s in
    let m : ℕ = tree_count all.trees in
    let no_call : (is_call name m ≡ false) × ((is_predicate name m || is_later_predicate name m) ≡ false) = neither (is_call name m) (is_predicate name m || is_later_predicate name m) none in
    let others : (is_predicate name m ≡ false) × (is_later_predicate name m ≡ false) = neither (is_predicate name m) (is_later_predicate name m) no_call.1 in
    ap (λ b. name_step b v preds (name_call name args all) (with_rest gs k es)) no_call.0
    ∙ (ap (λ t. effect_step v t preds (name_call name args all) (with_rest gs k es)) (no-effect name all.trees all.state (not-given-effect name m no_call.1))
    ∙ (ap (λ b. later_step b preds (name_call name args all) (with_rest gs k es)) others.1 ∙ ap (λ p. predicate_step p all (behind gs k) es) found))

-- a function of the program
pub apply-comes-to : (v : View) (preds : List PredTree) (name : List ℕ) (args : List Tree) (into : ℕ) (pred : PredTree) (gs : GoalTrees) (e : Places) (s : State) (k : List Frame) (es : List Entry) →
    let all : EvaluatedAll = evaluated_all (trees_of args) e s in
    is_given true name (tree_count all.trees) ≡ false → find_pred true name (tree_count all.trees) preds ≡ Some pred →
    goal_step v preds (apply name args into) e s (with_rest gs k es) ≡ function_step (Some pred) all into (behind gs k) es
unfolding goal_step
apply-comes-to v preds name args into pred gs e s k es none found =
    let all : EvaluatedAll = evaluated_all (trees_of args) e s in
    let m : ℕ = tree_count all.trees in
    let no_effect : (is_function name m ≡ false) × ((is_resource name m || is_later_function name m) ≡ false) = neither (is_function name m) (is_resource name m || is_later_function name m) none in
    let others : (is_resource name m ≡ false) × (is_later_function name m ≡ false) = neither (is_resource name m) (is_later_function name m) no_effect.1 in
    ap (λ t. value_step v t preds (name_call name args all) into (with_rest gs k es)) (no-value name all.trees all.state (not-given-value name m none))
    ∙ (ap (λ b. other_value b v preds (name_call name args all) into (with_rest gs k es)) others.0
    ∙ (ap (λ b. later_value b preds (name_call name args all) into (behind gs k) es) others.1 ∙ ap (λ p. function_step p all into (behind gs k) es) found))

-- what is built
pub effect-comes-to : (v : View) (preds : List PredTree) (name : List ℕ) (args : List Tree) (d : Effect) (gs : GoalTrees) (e : Places) (s : State) (k : List Frame) (es : List Entry) →
    let all : EvaluatedAll = evaluated_all (trees_of args) e s in
    predicate_effect name all.trees all.state ≡ Some d → goal_step v preds (call name args) e s (with_rest gs k es) ≡ silently (config (done_now v all.state d gs all.slots k) es)
unfolding goal_step
effect-comes-to v preds name args d gs e s k es is =
    let all : EvaluatedAll = evaluated_all (trees_of args) e s in
    ap (λ b. name_step b v preds (name_call name args all) (with_rest gs k es)) (no-call name all.trees all.state d is) ∙ ap (λ t. effect_step v t preds (name_call name args all) (with_rest gs k es)) is

pub value-comes-to : (v : View) (preds : List PredTree) (name : List ℕ) (args : List Tree) (into : ℕ) (d : FunctionEffect) (gs : GoalTrees) (e : Places) (s : State) (k : List Frame) (es : List Entry) →
    let all : EvaluatedAll = evaluated_all (trees_of args) e s in
    value_effect name all.trees all.state ≡ Some d → goal_step v preds (apply name args into) e s (with_rest gs k es) ≡ silently (config (given_now d into gs all.slots k) es)
unfolding goal_step
value-comes-to v preds name args into d gs e s k es is = ap (λ t. value_step v t preds (name_call name args (evaluated_all (trees_of args) e s)) into (with_rest gs k es)) is

-- `call` of a term
pub term-comes-to : (v : View) (preds : List PredTree) (name : List ℕ) (args : List Tree) (gs : GoalTrees) (e : Places) (s : State) (k : List Frame) (es : List Entry) →
    let all : EvaluatedAll = evaluated_all (trees_of args) e s in
    is_call name (tree_count all.trees) ≡ true →
    goal_step v preds (call name args) e s (with_rest gs k es) ≡ deeper (config (first_now preds all.trees all.state (returning all.slots (behind gs k))) es)
unfolding goal_step
term-comes-to v preds name args gs e s k es is = ap (λ b. name_step b v preds (name_call name args (evaluated_all (trees_of args) e s)) (with_rest gs k es)) is

-- a call that labels
pub solve-comes-to : (v : View) (preds : List PredTree) (name : List ℕ) (args : List Tree) (gs : GoalTrees) (e : Places) (s : State) (k : List Frame) (es : List Entry) →
    let all : EvaluatedAll = evaluated_all (trees_of args) e s in
    is_solve name (tree_count all.trees) ≡ true →
    goal_step v preds (call name args) e s (with_rest gs k es) ≡ silently (solve_step (solve_asked name all.trees all.state) (name_call name args all) (with_rest gs k es))
unfolding goal_step
solve-comes-to v preds name args gs e s k es is =
    let all : EvaluatedAll = evaluated_all (trees_of args) e s in
    let m : ℕ = tree_count all.trees in
    ap (λ b. name_step b v preds (name_call name args all) (with_rest gs k es)) (solve-no_call name m is)
    ∙ (ap (λ t. effect_step v t preds (name_call name args all) (with_rest gs k es)) (no-effect name all.trees all.state (solve-no_effect name m is))
    ∙ ap (λ b. later_step b preds (name_call name args all) (with_rest gs k es)) (solve-later name m is))

-- where its slots are those of the block, it labels on as it is written
pub again-as_written : (name : List ℕ) (args : List Tree) (gs : GoalTrees) (e : Places) (s q : State) (k : List Frame) (es : List Entry) → TreesBelow (length e) (trees_of args) →
    let all : EvaluatedAll = evaluated_all (trees_of args) e s in
    again (name_call name args all) q (with_rest gs k es) ≡ record { args = args; back = back_to all.slots q (behind gs k) }
again-as_written name args gs e s q k es below =
    let all : EvaluatedAll = evaluated_all (trees_of args) e s in
    ap (λ b. again_by b (name_call name args all) q (with_rest gs k es)) (arguments-filled (trees_of args) e s below)
