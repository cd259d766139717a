-- Each step of the machine is right: what remained before it is what the step comes to, and what remains after it.
use Rattle.std.proofs.Common.{◌≡◌, ℕ, zero, suc, List, [], ◌∷◌, refl, ap, sym, ◌∙◌}
use Rattle.std.specs.Prelude.{Bool, true, false, Option, Some, None, slice_set}
use Rattle.pi_terms.specs.Tree.{Tree, trees_of, tree_count}
use Rattle.pi_terms.specs.Copy.{copy, new_variables}
use Rattle.pi_constraints.specs.Unify.{unified}
use Rattle.pi_terms.specs.Places.{Places}
use Rattle.pi_constraints.specs.State.{State, next}
use Rattle.pi_core.specs.GoalTree.{GoalTree, truth, fail, tick, call, apply, seq, alternatives, if_else, not, once, collect, count, catch, GoalTrees, no_goals, goal}
use Rattle.pi_core.specs.CoreTree.{PredTree, find_pred}
use Rattle.pi_traces.specs.Trace.{Trace, done, one, then, first, note, Load, Out}
use Rattle.pi_traces.specs.Control.{negated, chosen}
use Rattle.pi_meaning.specs.Shared.View.{View}
use Rattle.pi_meaning.specs.CoreMeaning.Builtins.{Builtins}
use Rattle.pi_meaning.specs.CoreMeaning.Instances.{core_setting, built_later, whole}
use Rattle.pi_meaning.specs.Shared.Effects.{predicate_effect, value_effect}
use Rattle.pi_meaning.specs.Shared.Names.{is_later_predicate, is_later_function, is_resource, is_call}
use Rattle.pi_meaning.specs.Shared.Calls.{function_given}
use Rattle.pi_meaning.specs.Shared.Within.{Within, a_query, a_body, resource_left}
use Rattle.pi_constraints.specs.Evaluation.{Evaluated, evaluated, EvaluatedAll, evaluated_all, with_new_variables}
use Rattle.pi_meaning.specs.Shared.Level.{Level, Applied, or_called, or_applied}
use Rattle.pi_meaning.specs.Shared.Builtin.{settled_effect, function_trace}
use Rattle.pi_meaning.specs.CoreMeaning.Meaning.{Action, draining, strictly, succeeding, failing, calling, applying, collecting, counting, catching, meaning, meaning_of_all, meaning_of_any}
use Rattle.pi_meaning.specs.CoreMeaning.Rules.{call_run, application_run, calls_of, level_at}
use Rattle.pi_meaning.specs.CoreMeaning.Run.{answered_with}
use Rattle.pi_core.specs.declared.core_program.NameSlot.{NameSlot}
use Rattle.pi_meaning.proofs.Shared.CallLemmas.{built-later-adds, whole-adds}
use Rattle.pi_meaning.specs.Machine.Configuration.{Frame, Back, Choice, rules_left, facts_left, branches_left, alternatives_left, once_level, not_level, if_level, list_level, number_level, Entry, choice, strict, catch_level, left, Now, going, settling, failed, raising, Config, config, behind, telling}
use Rattle.pi_settling.specs.Settle.{Settlement, answer_with}
use Rattle.pi_settling.specs.Settled.{loaded}
use Rattle.pi_meaning.specs.Shared.Settle.{settlement, settled}
use Rattle.pi_meaning.proofs.Shared.SettleLemmas.{then-loaded}
use Rattle.pi_meaning.specs.Machine.Remaining.{run_from, point, continued, level_trace, catch_trace, around, now_trace, remaining_at}
use Rattle.pi_meaning.specs.Machine.Step.{silently, back_to, inside, branch, try_rules, try_facts, frame_step, strict_step, leave, choice_step, end_step, handler_step, below_left, predicate_step, effect_step, function_step, goal_step, Open, none_open, strict_open, catch_open, newest_open, fits, told_step, answer_step, fail_step, raise_step, now_step, step, done_now, value_step, given_now, later_step, name_step, resource_effect, later_value, other_value, with_rest, name_call, left_now, loaded_step, settle_step}
use Rattle.pi_meaning.specs.Machine.Shape.{IsBalanced, IsGood}
use Rattle.pi_meaning.specs.Machine.Built.{AreOfRules}
use Rattle.pi_meaning.specs.Machine.Laws.{Comes}
use Rattle.pi_meaning.proofs.Machine.RuleForms.{found-of-rules}
use Rattle.pi_meaning.proofs.Machine.StackLemmas.{IsClosed, IsFound, newest-found, note-passes}
use Rattle.pi_meaning.proofs.Machine.RunLemmas.{CallsAre, calls-are, remains}
use Rattle.pi_meaning.proofs.Machine.GoalSteps.{Is, goal-does, answer-is, truth-goes_on, branch-is, level-begins, catch-begins, list-begins, number-begins, effect-goes_on, given-goes_on, left-goes_on, frame-steps}
use Rattle.pi_meaning.proofs.Machine.AnswerSteps.{strict-answer, catch-answer, query-answer, told-answer, told-too_large}
use Rattle.pi_meaning.proofs.Machine.EndSteps.{rules-end, facts-end, branches-end, alternatives-end, strict-ends, catch-ends, left-ends, choice-raises, strict-raises, catch-raises, left-raises}
use Rattle.pi_meaning.proofs.Machine.CallSteps.{tick-comes, predicate-comes, function-comes}
use Rattle.pi_meaning.proofs.Machine.NamesGiven.{does-effect, does-nothing, gives-value, gives-resource, gives-later, gives-nothing}
use Rattle.pi_meaning.proofs.Machine.TermSteps.{call-comes}
use Rattle.pi_meaning.proofs.Machine.LabelSteps.{solve-comes, alternatives-come}
use Rattle.pi_meaning.proofs.Machine.SearchSteps.{search-answers}
use Rattle.pi_effects.specs.Effect.{FunctionEffect, Effect}

-- what goals run with
abbrev language : View → List PredTree → Builtins
language v preds = whole v built_later preds

-- a step at which all stays the same
silent : (v : View) (preds : List PredTree) (names : List NameSlot) (now : Now) (es : List Entry) (after : Config) →
    ((d : ℕ) → Is (language v preds) (level_at (language v preds) preds d) es (now_trace (language v preds) (level_at (language v preds) preds d) now) after) → Comes v preds names (config now es) (silently after)
unfolding remaining_at
silent v preds names now es after h = λ d. ap (λ t. then t (answered_with names)) (h d)

-- ---- goals

-- a goal, once what it does is known to be in the configuration after it
goal-silent : (v : View) (preds : List PredTree) (names : List NameSlot) (g : GoalTree) (act : Action) → meaning (language v preds) g ≡ draining act →
    (gs : GoalTrees) (e : Places) (s : State) (k : List Frame) (es : List Entry) (after : Config) →
    ((l : Level) → CallsAre (language v preds) preds l → Is (language v preds) l es (then (act (point l e s)) (continued (language v preds) l (behind gs k))) after) →
    Comes v preds names (config (going (goal g gs) e s k) es) (silently after)
unfolding now_trace
goal-silent v preds names g act m gs e s k es after h =
    silent v preds names (going (goal g gs) e s k) es after
    (λ d. ap (λ t. around (language v preds) (level_at (language v preds) preds d) es t []) (goal-does (language v preds) preds (level_at (language v preds) preds d) (calls-are (language v preds) preds d) g act m gs e s k)
    ∙ h (level_at (language v preds) preds d) (calls-are (language v preds) preds d))

predicate-step-comes : (v : View) (preds : List PredTree) (names : List NameSlot) (name : List ℕ) (args : List Tree) (gs : GoalTrees) (e : Places) (s : State) (k : List Frame) (es : List Entry) →
    AreOfRules preds → IsBalanced 0 es →
    let all : EvaluatedAll = evaluated_all (trees_of args) e s in
    ((l : Level) → (language v preds).predicate l name all.trees all.state ≡ None) → (o : Option PredTree) → find_pred false name (tree_count all.trees) preds ≡ o →
    Comes v preds names (config (going (goal (call name args) gs) e s k) es) (predicate_step o all (behind gs k) es)
unfolding meaning calling then CallsAre calls_of now_trace remaining_at
predicate-step-comes v preds names name args gs e s k es sound b none None f =
    let all : EvaluatedAll = evaluated_all (trees_of args) e s in
    goal-silent v preds names (call name args) (calling (language v preds) name args) refl gs e s k es (config failed es)
    (λ l h. ap (λ t. around (language v preds) l es (then (then t (λ r. one (point l all.slots r))) (continued (language v preds) l (behind gs k))) [])
    (ap (λ o. or_called o l name all.trees all.state) (none l)
    ∙ (ap (λ c. c.called name all.trees all.state) h.2 ∙ ap (λ o. call_run (language v preds) h.0 h.1 o all.trees all.state) f)))
predicate-step-comes v preds names name args gs e s k es sound b none (Some pred) f =
    let all : EvaluatedAll = evaluated_all (trees_of args) e s in
    predicate-comes v preds names name args gs e s k es pred b none f (found-of-rules false name (tree_count all.trees) preds pred sound f) pred.quiet refl

-- a goal of a name that does something by itself
given-step-comes : (v : View) (preds : List PredTree) (names : List NameSlot) (name : List ℕ) (args : List Tree) (gs : GoalTrees) (e : Places) (s : State) (k : List Frame) (es : List Entry)
    (t : Trace State) →
    let all : EvaluatedAll = evaluated_all (trees_of args) e s in
    ((l : Level) → (language v preds).predicate l name all.trees all.state ≡ Some t) → (after : Config) →
    ((l : Level) → Is (language v preds) l es (then (then t (λ r. one (point l all.slots r))) (continued (language v preds) l (behind gs k))) after) →
    Comes v preds names (config (going (goal (call name args) gs) e s k) es) (silently after)
unfolding meaning calling
given-step-comes v preds names name args gs e s k es t does after is =
    let all : EvaluatedAll = evaluated_all (trees_of args) e s in
    goal-silent v preds names (call name args) (calling (language v preds) name args) refl gs e s k es after
    (λ l h. ap (λ o. around (language v preds) l es (then (then (or_called o l name all.trees all.state) (λ r. one (point l all.slots r))) (continued (language v preds) l (behind gs k))) []) (does l) ∙ is l)

later-step-comes : (v : View) (preds : List PredTree) (names : List NameSlot) (name : List ℕ) (args : List Tree) (gs : GoalTrees) (e : Places) (s : State) (k : List Frame) (es : List Entry) →
    AreOfRules preds → IsBalanced 0 es →
    let all : EvaluatedAll = evaluated_all (trees_of args) e s in
    is_call name (tree_count all.trees) ≡ false → predicate_effect name all.trees all.state ≡ None → (later : Bool) → is_later_predicate name (tree_count all.trees) ≡ later →
    Comes v preds names (config (going (goal (call name args) gs) e s k) es) (later_step later preds (name_call name args all) (with_rest gs k es))
later-step-comes v preds names name args gs e s k es sound b other none true is = solve-comes v preds names name args gs e s k es other none is
later-step-comes v preds names name args gs e s k es sound b other none false is =
    let all : EvaluatedAll = evaluated_all (trees_of args) e s in
    predicate-step-comes v preds names name args gs e s k es sound b (does-nothing v preds name all.trees all.state other none is) (find_pred false name (tree_count all.trees) preds) refl

effect-step-comes : (v : View) (preds : List PredTree) (names : List NameSlot) (name : List ℕ) (args : List Tree) (gs : GoalTrees) (e : Places) (s : State) (k : List Frame) (es : List Entry) →
    AreOfRules preds → IsBalanced 0 es →
    let all : EvaluatedAll = evaluated_all (trees_of args) e s in
    is_call name (tree_count all.trees) ≡ false → (o : Option Effect) → predicate_effect name all.trees all.state ≡ o →
    Comes v preds names (config (going (goal (call name args) gs) e s k) es) (effect_step v o preds (name_call name args all) (with_rest gs k es))
effect-step-comes v preds names name args gs e s k es sound b other None f =
    let all : EvaluatedAll = evaluated_all (trees_of args) e s in
    later-step-comes v preds names name args gs e s k es sound b other f (is_later_predicate name (tree_count all.trees)) refl
effect-step-comes v preds names name args gs e s k es sound b other (Some d) f =
    let all : EvaluatedAll = evaluated_all (trees_of args) e s in
    given-step-comes v preds names name args gs e s k es (settled_effect v all.state d) (λ l. does-effect v preds l name all.trees all.state d other f)
    (config (done_now v all.state d gs all.slots k) es) (λ l. effect-goes_on (language v preds) v l all.state d gs all.slots k es)

name-step-comes : (v : View) (preds : List PredTree) (names : List NameSlot) (name : List ℕ) (args : List Tree) (gs : GoalTrees) (e : Places) (s : State) (k : List Frame) (es : List Entry) →
    AreOfRules preds → IsBalanced 0 es →
    let all : EvaluatedAll = evaluated_all (trees_of args) e s in
    (called : Bool) → is_call name (tree_count all.trees) ≡ called → Comes v preds names (config (going (goal (call name args) gs) e s k) es) (name_step called v preds (name_call name args all) (with_rest gs k es))
name-step-comes v preds names name args gs e s k es sound b true is = call-comes v preds names name args gs e s k es is
name-step-comes v preds names name args gs e s k es sound b false is =
    let all : EvaluatedAll = evaluated_all (trees_of args) e s in
    effect-step-comes v preds names name args gs e s k es sound b is (predicate_effect name all.trees all.state) refl

function-step-comes : (v : View) (preds : List PredTree) (names : List NameSlot) (name : List ℕ) (args : List Tree) (into : ℕ) (gs : GoalTrees) (e : Places) (s : State) (k : List Frame) (es : List Entry) →
    IsBalanced 0 es →
    let all : EvaluatedAll = evaluated_all (trees_of args) e s in
    function_given (core_setting v built_later preds) name all.trees all.state ≡ None → (o : Option PredTree) → find_pred true name (tree_count all.trees) preds ≡ o →
    Comes v preds names (config (going (goal (apply name args into) gs) e s k) es) (function_step o all into (behind gs k) es)
unfolding meaning applying then CallsAre calls_of now_trace remaining_at
function-step-comes v preds names name args into gs e s k es b none None f =
    let all : EvaluatedAll = evaluated_all (trees_of args) e s in
    goal-silent v preds names (apply name args into) (applying (language v preds) name args into) refl gs e s k es (config failed es)
    (λ l h. ap (λ t. around (language v preds) l es (then (then t (λ a. one (point l (slice_set all.slots into (Some a.value)) a.state))) (continued (language v preds) l (behind gs k))) [])
    (ap (λ o. or_applied o l name all.trees all.state) none
    ∙ (ap (λ c. c.applied name all.trees all.state) h.2 ∙ ap (λ o. application_run (language v preds) h.0 h.1 o all.trees all.state) f)))
function-step-comes v preds names name args into gs e s k es b none (Some pred) f =
    function-comes v preds names name args into gs e s k es pred b none f pred.quiet refl

given-value-comes : (v : View) (preds : List PredTree) (names : List NameSlot) (name : List ℕ) (args : List Tree) (into : ℕ) (gs : GoalTrees) (e : Places) (s : State) (k : List Frame) (es : List Entry)
    (t : Trace Applied) →
    let all : EvaluatedAll = evaluated_all (trees_of args) e s in
    function_given (core_setting v built_later preds) name all.trees all.state ≡ Some t → (after : Config) →
    ((l : Level) → Is (language v preds) l es (then (then t (λ a. one (point l (slice_set all.slots into (Some a.value)) a.state))) (continued (language v preds) l (behind gs k))) after) →
    Comes v preds names (config (going (goal (apply name args into) gs) e s k) es) (silently after)
unfolding meaning applying
given-value-comes v preds names name args into gs e s k es t does after is =
    let all : EvaluatedAll = evaluated_all (trees_of args) e s in
    goal-silent v preds names (apply name args into) (applying (language v preds) name args into) refl gs e s k es after
    (λ l h. ap (λ o. around (language v preds) l es (then (then (or_applied o l name all.trees all.state) (λ a. one (point l (slice_set all.slots into (Some a.value)) a.state))) (continued (language v preds) l (behind gs k))) []) does ∙ is l)

later-value-comes : (v : View) (preds : List PredTree) (names : List NameSlot) (name : List ℕ) (args : List Tree) (into : ℕ) (gs : GoalTrees) (e : Places) (s : State) (k : List Frame) (es : List Entry) →
    IsBalanced 0 es →
    let all : EvaluatedAll = evaluated_all (trees_of args) e s in
    value_effect name all.trees all.state ≡ None → is_resource name (tree_count all.trees) ≡ false → (later : Bool) → is_later_function name (tree_count all.trees) ≡ later →
    Comes v preds names (config (going (goal (apply name args into) gs) e s k) es) (later_value later preds (name_call name args all) into (behind gs k) es)
unfolding then now_trace
later-value-comes v preds names name args into gs e s k es b none other true is =
    let all : EvaluatedAll = evaluated_all (trees_of args) e s in
    given-value-comes v preds names name args into gs e s k es done (gives-later v preds name all.trees all.state none other is) (config failed es) (λ l. refl)
later-value-comes v preds names name args into gs e s k es b none other false is =
    let all : EvaluatedAll = evaluated_all (trees_of args) e s in
    function-step-comes v preds names name args into gs e s k es b (gives-nothing v preds name all.trees all.state none other is) (find_pred true name (tree_count all.trees) preds) refl

resource-trace : (w : Within) (s : State) → function_trace (resource_effect w s) ≡ resource_left w s
resource-trace a_query s = refl
resource-trace (a_body n) s = refl

effect-value-comes : (v : View) (preds : List PredTree) (names : List NameSlot) (name : List ℕ) (args : List Tree) (into : ℕ) (gs : GoalTrees) (e : Places) (s : State) (k : List Frame) (es : List Entry) →
    let all : EvaluatedAll = evaluated_all (trees_of args) e s in
    (d : FunctionEffect) → function_given (core_setting v built_later preds) name all.trees all.state ≡ Some (function_trace d) →
    Comes v preds names (config (going (goal (apply name args into) gs) e s k) es) (silently (config (given_now d into gs all.slots k) es))
effect-value-comes v preds names name args into gs e s k es d does =
    let all : EvaluatedAll = evaluated_all (trees_of args) e s in
    given-value-comes v preds names name args into gs e s k es (function_trace d) does (config (given_now d into gs all.slots k) es)
    (λ l. given-goes_on (language v preds) l d into gs all.slots k es)

other-value-comes : (v : View) (preds : List PredTree) (names : List NameSlot) (name : List ℕ) (args : List Tree) (into : ℕ) (gs : GoalTrees) (e : Places) (s : State) (k : List Frame) (es : List Entry) →
    IsBalanced 0 es →
    let all : EvaluatedAll = evaluated_all (trees_of args) e s in
    value_effect name all.trees all.state ≡ None → (resource : Bool) → is_resource name (tree_count all.trees) ≡ resource →
    Comes v preds names (config (going (goal (apply name args into) gs) e s k) es) (other_value resource v preds (name_call name args all) into (with_rest gs k es))
other-value-comes v preds names name args into gs e s k es b none true is =
    let all : EvaluatedAll = evaluated_all (trees_of args) e s in
    effect-value-comes v preds names name args into gs e s k es (resource_effect v.within all.state)
    (gives-resource v preds name all.trees all.state none is ∙ ap (λ t. Some t) (sym (resource-trace v.within all.state)))
other-value-comes v preds names name args into gs e s k es b none false is =
    let all : EvaluatedAll = evaluated_all (trees_of args) e s in
    later-value-comes v preds names name args into gs e s k es b none is (is_later_function name (tree_count all.trees)) refl

value-step-comes : (v : View) (preds : List PredTree) (names : List NameSlot) (name : List ℕ) (args : List Tree) (into : ℕ) (gs : GoalTrees) (e : Places) (s : State) (k : List Frame) (es : List Entry) →
    IsBalanced 0 es →
    let all : EvaluatedAll = evaluated_all (trees_of args) e s in
    (o : Option FunctionEffect) → value_effect name all.trees all.state ≡ o →
    Comes v preds names (config (going (goal (apply name args into) gs) e s k) es) (value_step v o preds (name_call name args all) into (with_rest gs k es))
value-step-comes v preds names name args into gs e s k es b None f =
    let all : EvaluatedAll = evaluated_all (trees_of args) e s in
    other-value-comes v preds names name args into gs e s k es b f (is_resource name (tree_count all.trees)) refl
value-step-comes v preds names name args into gs e s k es b (Some d) f =
    let all : EvaluatedAll = evaluated_all (trees_of args) e s in
    effect-value-comes v preds names name args into gs e s k es d (gives-value v preds name all.trees all.state d f)

goal-comes : (v : View) (preds : List PredTree) (names : List NameSlot) (g : GoalTree) (gs : GoalTrees) (e : Places) (s : State) (k : List Frame) (es : List Entry) →
    AreOfRules preds → IsBalanced 0 es → Comes v preds names (config (going (goal g gs) e s k) es) (goal_step v preds g e s (with_rest gs k es))
unfolding goal_step meaning then now_trace level_trace remaining_at catching catch_trace
goal-comes v preds names truth gs e s k es sound b =
    goal-silent v preds names truth succeeding refl gs e s k es (config (going gs e s k) es) (λ l h. ap (λ t. around (language v preds) l es t []) (truth-goes_on (language v preds) l gs e s k))
goal-comes v preds names fail gs e s k es sound b = goal-silent v preds names fail failing refl gs e s k es (config failed es) (λ l h. refl)
goal-comes v preds names tick gs e s k es sound b = λ d. tick-comes (language v preds) (whole-adds v built_later preds built-later-adds) preds names d gs e s k es b
goal-comes v preds names (call name args) gs e s k es sound b =
    let all : EvaluatedAll = evaluated_all (trees_of args) e s in
    name-step-comes v preds names name args gs e s k es sound b (is_call name (tree_count all.trees)) refl
goal-comes v preds names (apply name args into) gs e s k es sound b =
    let all : EvaluatedAll = evaluated_all (trees_of args) e s in
    value-step-comes v preds names name args into gs e s k es b (value_effect name all.trees all.state) refl
goal-comes v preds names (seq hs) gs e s k es sound b =
    goal-silent v preds names (seq hs) (meaning_of_all (language v preds) hs) refl gs e s k es (config (going hs e s (behind gs k)) es) (λ l h. refl)
goal-comes v preds names (alternatives hs) gs e s k es sound b =
    goal-silent v preds names (alternatives hs) (meaning_of_any (language v preds) hs) refl gs e s k es (branch hs (back_to e s (behind gs k)) es)
    (λ l h. branch-is (language v preds) l hs (back_to e s (behind gs k)) es)
goal-comes v preds names (if_else test g other) gs e s k es sound b =
    goal-silent v preds names (if_else test g other) (λ p. chosen (strictly (meaning (language v preds) test) p) (meaning (language v preds) g) (meaning (language v preds) other p)) refl gs e s k es
    (inside test e s (strict (if_level g other) (back_to e s (behind gs k))) es)
    (λ l h. level-begins (language v preds) l (if_level g other) (back_to e s (behind gs k)) test e s es)
goal-comes v preds names (not g) gs e s k es sound b =
    goal-silent v preds names (not g) (λ p. negated (strictly (meaning (language v preds) g) p) p) refl gs e s k es
    (inside g e s (strict not_level (back_to e s (behind gs k))) es)
    (λ l h. level-begins (language v preds) l not_level (back_to e s (behind gs k)) g e s es)
goal-comes v preds names (once g) gs e s k es sound b =
    goal-silent v preds names (once g) (λ p. first (strictly (meaning (language v preds) g) p)) refl gs e s k es
    (inside g e s (strict once_level (back_to e s (behind gs k))) es)
    (λ l h. level-begins (language v preds) l once_level (back_to e s (behind gs k)) g e s es)
goal-comes v preds names (collect g slot into) gs e s k es sound b =
    goal-silent v preds names (collect g slot into) (collecting (meaning (language v preds) g) slot into) refl gs e s k es
    (inside g e s (strict (list_level slot into []) (back_to e s (behind gs k))) es)
    (λ l h. ap (λ t. around (language v preds) l es t []) (list-begins (language v preds) l g slot into e s (behind gs k))
    ∙ level-begins (language v preds) l (list_level slot into []) (back_to e s (behind gs k)) g e s es)
goal-comes v preds names (count g into) gs e s k es sound b =
    goal-silent v preds names (count g into) (counting (meaning (language v preds) g) into) refl gs e s k es
    (inside g e s (strict (number_level into 0) (back_to e s (behind gs k))) es)
    (λ l h. ap (λ t. around (language v preds) l es t []) (number-begins (language v preds) l g into e s (behind gs k))
    ∙ level-begins (language v preds) l (number_level into 0) (back_to e s (behind gs k)) g e s es)
goal-comes v preds names (catch g ball handler) gs e s k es sound b =
    let c : Evaluated = evaluated ball e s in
    let back : Back = back_to c.slots c.state (behind gs k) in
    goal-silent v preds names (catch g ball handler) (catching (meaning (language v preds) g) ball (meaning (language v preds) handler)) refl gs e s k es
    (inside g c.slots c.state (catch_level c.tree handler back) es)
    (λ l h. catch-begins (language v preds) l c.tree handler back g c.slots c.state es)

-- ---- answers

-- an answer of the query
told-comes : (v : View) (preds : List PredTree) (names : List NameSlot) (e : Places) (s : State) (es : List Entry) → IsClosed 0 es → (fit : Bool) →
    fits names (record { slots = e; state = s }) ≡ fit →
    Comes v preds names (config (going no_goals e s []) es) (told_step fit (record { slots = e; state = s }) es)
unfolding remaining_at now_trace around then
told-comes v preds names e s es closed true f = λ d.
    let l : Level = level_at (language v preds) preds d in
    ap (λ t. then t (answered_with names))
    (ap (λ t. around (language v preds) l es t []) (answer-is (language v preds) preds l (calls-are (language v preds) preds d) e s) ∙ query-answer (language v preds) l e s es closed)
    ∙ told-answer names (point l e s) (remains (language v preds) l failed es) f
told-comes v preds names e s es closed false f = λ d.
    let l : Level = level_at (language v preds) preds d in
    ap (λ t. then t (answered_with names))
    (ap (λ t. around (language v preds) l es t []) (answer-is (language v preds) preds l (calls-are (language v preds) preds d) e s) ∙ query-answer (language v preds) l e s es closed)
    ∙ told-too_large names (point l e s) (remains (language v preds) l failed es) f

answer-comes : (v : View) (preds : List PredTree) (names : List NameSlot) (e : Places) (s : State) (es : List Entry) → IsBalanced 0 es → (o : Open) → IsFound 0 es o →
    Comes v preds names (config (going no_goals e s []) es) (answer_step names e s es o)
unfolding IsFound answer_step now_trace
answer-comes v preds names e s es b none_open h = told-comes v preds names e s es (h b) (fits names (record { slots = e; state = s })) refl
answer-comes v preds names e s es b (strict_open above level back below) h =
    silent v preds names (going no_goals e s []) es (strict_step level e s above back below)
    (λ d. let l : Level = level_at (language v preds) preds d in
    ap (λ t. around (language v preds) l es t []) (answer-is (language v preds) preds l (calls-are (language v preds) preds d) e s)
    ∙ (ap (λ xs. around (language v preds) l xs (one (point l e s)) []) h.0 ∙ strict-answer (language v preds) l (search-answers v preds d) level e s above (h.1 b) back below))
answer-comes v preds names e s es b (catch_open above ball handler back below) h =
    silent v preds names (going no_goals e s []) es (config (going no_goals e s back.frames) (leave above ball handler back below))
    (λ d. let l : Level = level_at (language v preds) preds d in
    ap (λ t. around (language v preds) l es t []) (answer-is (language v preds) preds l (calls-are (language v preds) preds d) e s)
    ∙ (ap (λ xs. around (language v preds) l xs (one (point l e s)) []) h.0 ∙ catch-answer (language v preds) l e s above (h.1 b) ball handler back below))

-- ---- ends

choice-comes : (v : View) (preds : List PredTree) (names : List NameSlot) (c : Choice) (b : Back) (es : List Entry) → IsBalanced 0 es → Comes v preds names (config failed (choice c b ∷ es)) (choice_step c b es)
unfolding now_trace
choice-comes v preds names (rules_left called cs) b es h =
    silent v preds names failed (choice (rules_left called cs) b ∷ es) (try_rules called cs b es) (λ d. rules-end (language v preds) (level_at (language v preds) preds d) called cs b es)
choice-comes v preds names (facts_left ts cs) b es h =
    silent v preds names failed (choice (facts_left ts cs) b ∷ es) (try_facts ts cs b es) (λ d. facts-end (language v preds) (level_at (language v preds) preds d) ts cs b es)
choice-comes v preds names (branches_left gs) b es h =
    silent v preds names failed (choice (branches_left gs) b ∷ es) (branch gs b es) (λ d. branches-end (language v preds) (level_at (language v preds) preds d) gs b es)
choice-comes v preds names (alternatives_left name args p []) b es h =
    silent v preds names failed (choice (alternatives_left name args p []) b ∷ es) (config failed es) (λ d. alternatives-end (language v preds) (level_at (language v preds) preds d) name args p b es)
choice-comes v preds names (alternatives_left name args p (a ∷ alts)) b es h = alternatives-come v preds names name args p a alts b es h

fail-comes : (v : View) (preds : List PredTree) (names : List NameSlot) (es : List Entry) → IsBalanced 0 es → Comes v preds names (config failed es) (fail_step es)
unfolding fail_step remaining_at now_trace around then IsBalanced
fail-comes v preds names [] h = λ d. refl
fail-comes v preds names (choice c b ∷ es) h = choice-comes v preds names c b es h
fail-comes v preds names (strict level b ∷ es) h =
    silent v preds names failed (strict level b ∷ es) (end_step level b es) (λ d. strict-ends (language v preds) (level_at (language v preds) preds d) level b es)
fail-comes v preds names (catch_level ball handler b ∷ es) h =
    silent v preds names failed (catch_level ball handler b ∷ es) (config failed es) (λ d. catch-ends (language v preds) (level_at (language v preds) preds d) ball handler b es)
fail-comes v preds names (left ∷ es) h =
    silent v preds names failed (left ∷ es) (config failed es) (λ d. left-ends (language v preds) (level_at (language v preds) preds d) es)

raise-comes : (v : View) (preds : List PredTree) (names : List NameSlot) (raised : Tree) (es : List Entry) → IsBalanced 0 es →
    Comes v preds names (config (raising raised) es) (raise_step raised es)
unfolding raise_step remaining_at now_trace around then IsBalanced
raise-comes v preds names raised [] h = λ d. refl
raise-comes v preds names raised (choice c b ∷ es) h =
    silent v preds names (raising raised) (choice c b ∷ es) (config (raising raised) es) (λ d. choice-raises (language v preds) (level_at (language v preds) preds d) c b es raised)
raise-comes v preds names raised (strict level b ∷ es) h =
    silent v preds names (raising raised) (strict level b ∷ es) (config (raising raised) es) (λ d. strict-raises (language v preds) (level_at (language v preds) preds d) level b es raised)
raise-comes v preds names raised (catch_level ball handler b ∷ es) h =
    silent v preds names (raising raised) (catch_level ball handler b ∷ es)
    (config (handler_step handler b raised (unified (with_new_variables (new_variables raised) b.state) ball (copy (next b.state) raised))) es)
    (λ d. catch-raises (language v preds) (level_at (language v preds) preds d) ball handler b es raised)
raise-comes v preds names raised (left ∷ es) h =
    silent v preds names (raising raised) (left ∷ es) (config (raising raised) (below_left (newest_open zero es) es))
    (λ d. left-raises (language v preds) (level_at (language v preds) preds d) es h raised)

-- a text passes all that waits
telling-comes : (given : Builtins) (l : Level) (names : List NameSlot) (text : List ℕ) (gs : GoalTrees) (e : Places) (s : State) (k : List Frame) (es : List Entry) → IsBalanced 0 es →
    remaining_at given l names (config (telling text gs e s k) es) ≡ note (Out text) (remaining_at given l names (config (going gs e s k) es))
unfolding remaining_at now_trace then
telling-comes given l names text gs e s k es h = ap (λ t. then t (answered_with names)) (note-passes given l es h (Out text) (run_from given l gs e s k))

-- a load passes all that waits, as does what follows it
loaded-comes : (v : View) (preds : List PredTree) (names : List NameSlot) (now after : Now) (es : List Entry) → IsBalanced 0 es → (n : ℕ) →
    ((d : ℕ) → now_trace (language v preds) (level_at (language v preds) preds d) now ≡ loaded n (now_trace (language v preds) (level_at (language v preds) preds d) after)) →
    Comes v preds names (config now es) (loaded_step n (config after es))
unfolding remaining_at loaded then
loaded-comes v preds names now after es b zero h =
    silent v preds names now es (config after es) (λ d. ap (λ t. around (language v preds) (level_at (language v preds) preds d) es t []) (h d))
loaded-comes v preds names now after es b (suc n) h =
    λ d. let l : Level = level_at (language v preds) preds d in
    ap (λ t. then (around (language v preds) l es t []) (answered_with names)) (h d)
    ∙ ap (λ t. then t (answered_with names)) (note-passes (language v preds) l es b (Load (suc n)) (now_trace (language v preds) l after))

settling-comes : (v : View) (preds : List PredTree) (names : List NameSlot) (before s : State) (gs : GoalTrees) (e : Places) (k : List Frame) (es : List Entry) → IsBalanced 0 es →
    Comes v preds names (config (settling before s gs e k) es) (settle_step (settlement before s) gs e k es)
unfolding now_trace settled
settling-comes v preds names before s gs e k es b =
    let m : Settlement = settlement before s in
    loaded-comes v preds names (settling before s gs e k) (left_now m.left gs e k) es b m.load
    (λ d. let l : Level = level_at (language v preds) preds d in
    then-loaded m.load (answer_with m.left) (λ r. run_from (language v preds) l gs e r k) ∙ ap (loaded m.load) (left-goes_on (language v preds) l m.left gs e k))

-- ---- all

now-comes : (v : View) (preds : List PredTree) (names : List NameSlot) (now : Now) (es : List Entry) → AreOfRules preds → IsBalanced 0 es →
    Comes v preds names (config now es) (now_step v preds names now es)
unfolding now_trace
now-comes v preds names (going (goal g gs) e s k) es sound b = goal-comes v preds names g gs e s k es sound b
now-comes v preds names (going no_goals e s []) es sound b = answer-comes v preds names e s es b (newest_open zero es) (newest-found zero es)
now-comes v preds names (going no_goals e s (f ∷ k)) es sound b =
    silent v preds names (going no_goals e s (f ∷ k)) es (frame_step f e s k es)
    (λ d. frame-steps (language v preds) preds (level_at (language v preds) preds d) (calls-are (language v preds) preds d) f e s k es)
now-comes v preds names (settling before s gs e k) es sound b = settling-comes v preds names before s gs e k es b
now-comes v preds names (telling text gs e s k) es sound b = λ d. telling-comes (language v preds) (level_at (language v preds) preds d) names text gs e s k es b
now-comes v preds names failed es sound b = fail-comes v preds names es b
now-comes v preds names (raising raised) es sound b = raise-comes v preds names raised es b

pub step-comes : (v : View) (preds : List PredTree) (names : List NameSlot) (c : Config) → AreOfRules preds → IsGood c → Comes v preds names c (step v preds names c)
unfolding step
step-comes v preds names c sound good = now-comes v preds names c.now c.stack sound good.balanced
