-- The weight of a configuration falls at each step that counts no Tick: each kind of step.
use Rattle.std.proofs.Common.{◌≡◌, ℕ, zero, suc, ◌+◌, ◌*◌, ◌^◌, ◌≤◌, ◌<◌, List, [], ◌∷◌, ◌++◌, length, refl, ap, sym, subst, ◌∙◌, arith}
use Rattle.std.specs.Prelude.{Bool, true, false, ℤ, Option, Some, None, Result, Ok, Err, is_some, cond, codes, nat_lt}
use Rattle.pi_terms.specs.Tree.{Tree, atom, comp, cells, tree_count, trees_of, most_cells}
use Rattle.pi_terms.specs.Places.{Places}
use Rattle.pi_constraints.specs.State.{State, next}
use Rattle.pi_terms.specs.Copy.{copy, new_variables}
use Rattle.pi_constraints.specs.Unify.{unified}
use Rattle.pi_core.specs.GoalTree.{GoalTree, truth, fail, tick, call, apply, seq, alternatives, if_else, not, once, collect, count, catch, GoalTrees, no_goals, goal}
use Rattle.pi_core.specs.CoreTree.{PredTree, find_pred}
use Rattle.pi_meaning.specs.Shared.View.{View}
use Rattle.pi_meaning.specs.Shared.Names.{is_later_predicate, is_later_function, is_resource, is_call, is_given}
use Rattle.pi_meaning.specs.CoreMeaning.Quiet.{TicksBetween}
use Rattle.pi_constraints.specs.Evaluation.{EvaluatedAll, evaluated_all, with_new_variables}
use Rattle.pi_meaning.specs.CoreMeaning.Meaning.{slot_value}
use Rattle.pi_meaning.specs.CoreMeaning.Run.{Solution}
use Rattle.pi_core.specs.declared.core_program.NameSlot.{NameSlot}
use Rattle.pi_meaning.specs.Machine.Configuration.{Frame, Back, Choice, rules_left, facts_left, branches_left, alternatives_left, Search, Found, Strict, once_level, not_level, if_level, guard_level, value_level, list_level, number_level, search_level, Entry, choice, strict, catch_level, left, Now, going, settling, failed, raising, Config, config, behind, returning, telling}
use Rattle.pi_settling.specs.Settle.{Settlement}
use Rattle.pi_constraints.specs.declared.constraint.Item.{Item}
use Rattle.pi_settling.specs.Options.{Options, Objective, ValueWord}
use Rattle.pi_settling.specs.Asked.{Asked, labels, raises}
use Rattle.pi_settling.specs.SolveCalls.{solve_asked}
use Rattle.pi_settling.specs.Confined.{confined}
use Rattle.pi_settling.specs.Choices.{Pending, pending, picked}
use Rattle.pi_settling.specs.Reading.{Operand, reads, refuses}
use Rattle.pi_settling.specs.Read.{operand_in}
use Rattle.pi_settling.specs.Rounds.{count_better}
use Rattle.pi_prop_spec.specs.Steps.{Refusal}
use Rattle.pi_prop_spec.specs.Postings.{Posting, posting_in}
use Rattle.pi_meaning.specs.Shared.Settle.{settlement}
use Rattle.pi_meaning.specs.Machine.Step.{back_to, branch, try_clauses, call_step, predicate_step, effect_step, function_step, goal_step, Open, none_open, strict_open, catch_open, newest_open, strict_step, leave, fits, told_step, answer_step, choice_step, end_step, fail_step, handler_step, below_left, raise_step, now_step, step, done_now, given_now, value_step, later_step, name_step, later_value, other_value, resource_effect, silently, Rest, with_rest, NameCall, name_call, label_step, search_args, round_call, begun_now, bettered_now, better_goal, search_of, next_round, rounds_after, weighed_step, worth_in, labels_step, solve_step, round_step, left_now, loaded_step, settle_step}
use Rattle.pi_meaning.specs.Machine.Shape.{IsBalanced, IsGood}
use Rattle.pi_meaning.specs.Machine.Weight.{CallWeights, goal_weight, goals_weight, branches_weight, going_weight, frames_weight, strict_answer_weight, answer_weight, choice_weight, strict_weight, stack_weight, now_weight, weight_by, weight, GetsLighter, rounds_left, search_weight, search_room, call_weight, clauses_weight, inside_weight, program_calls}
use Rattle.pi_meaning.proofs.Machine.StackLemmas.{IsClosed, IsFound, newest-found}
use Rattle.pi_meaning.proofs.Machine.EndSteps.{IsMatched, left-matched}
use Rattle.pi_meaning.proofs.Machine.NamedWeights.{call-heavy, given-many, returning-weight, first-lighter}
use Rattle.pi_meaning.proofs.Machine.WeightLemmas.{behind-weight, going-below, closed-answer, left-answer, below-weight, SameWeight, same-weight}
use Rattle.pi_meaning.proofs.Machine.WeightParts.{Lighter, branch-lighter, done-lighter, given-lighter, taken-lighter, rules-lighter, facts-lighter, clauses-lighter, frame-lighter}
use Rattle.pi_meaning.proofs.Machine.QuietWeights.{clauses-more, within-grows, quiet-weighs, none-of}
use Rattle.pi_effects.specs.Effect.{Effect, FunctionEffect}
use Rattle.pi_effects.specs.BuiltIns.{is_predicate, is_function}
use Rattle.pi_meaning.specs.Shared.Effects.{predicate_effect, value_effect, is_effect_name, is_value_name}
use Rattle.pi_meaning.proofs.Shared.EffectNames.{effects-listed, values-listed, no-predicate, no-function}

-- ---- goals

-- a call that is counted, and a quiet one, of a predicate that is found
call-lighter : (preds : List PredTree) (quiet : Bool) (c next : Config) → (TicksBetween preds → quiet ≡ true → weight preds next < weight preds c) → GetsLighter preds c (call_step quiet next)
call-lighter preds true c next h = λ ticks. h ticks refl
call-lighter preds false c next h = tt

-- what a call weighs at least that is of the program
abbrev CallWeighs : List PredTree → Bool → List ℕ → EvaluatedAll → List Frame → List Entry → Config → Type 0
CallWeighs preds function name all k es c =
    let calls : CallWeights = program_calls preds in
    let r : ℕ = frames_weight calls k (answer_weight calls 0 es) in
    suc (suc r) + calls function name (tree_count all.trees) r + stack_weight calls es ≤ weight preds c

predicate-lighter : (preds : List PredTree) (o : Option PredTree) (name : List ℕ) (all : EvaluatedAll) (k : List Frame) (es : List Entry) (c : Config) → find_pred false name (tree_count all.trees) preds ≡ o →
    is_given false name (tree_count all.trees) ≡ false → CallWeighs preds false name all k es c → GetsLighter preds c (predicate_step o all k es)
unfolding weight_by now_weight
predicate-lighter preds None name all k es c found free h = omega arith
predicate-lighter preds (Some pred) name all k es c found free h = call-lighter preds pred.quiet c _ (λ ticks quiet.
    let calls : CallWeights = program_calls preds in
    let r : ℕ = frames_weight calls k (answer_weight calls 0 es) in
    let b : Back = back_to [] all.state (returning all.slots k) in
    let q : ℕ = frames_weight calls b.frames (answer_weight calls 0 es) in
    let same : calls false name (tree_count all.trees) r ≡ suc (inside_weight calls false pred r) = quiet-weighs preds ticks false name (tree_count all.trees) pred free found quiet r in
    let light : weight preds (try_clauses pred.index pred.clauses all.trees b es) ≤ clauses_weight calls pred.index pred.clauses q + stack_weight calls es = clauses-lighter calls pred.index pred.clauses all.trees b es in
    let more : clauses_weight calls pred.index pred.clauses q ≤ clauses_weight calls pred.index pred.clauses (suc r) =
    clauses-more calls (within-grows preds (length preds)) pred.index pred.clauses q (suc r) (returning-weight calls all.slots k (answer_weight calls 0 es)) in
    omega arith)

function-lighter : (preds : List PredTree) (o : Option PredTree) (name : List ℕ) (all : EvaluatedAll) (into : ℕ) (k : List Frame) (es : List Entry) (c : Config) → find_pred true name (tree_count all.trees) preds ≡ o →
    is_given true name (tree_count all.trees) ≡ false → CallWeighs preds true name all k es c → GetsLighter preds c (function_step o all into k es)
unfolding weight_by now_weight stack_weight answer_weight strict_answer_weight strict_weight
function-lighter preds None name all into k es c found free h = omega arith
function-lighter preds (Some pred) name all into k es c found free h = call-lighter preds pred.quiet c _ (λ ticks quiet.
    let calls : CallWeights = program_calls preds in
    let r : ℕ = frames_weight calls k (answer_weight calls 0 es) in
    let same : calls true name (tree_count all.trees) r ≡ suc (inside_weight calls true pred r) = quiet-weighs preds ticks true name (tree_count all.trees) pred free found quiet r in
    let light : _ = rules-lighter calls (record { function = true; args = all.trees }) pred.clauses (back_to [] all.state [])
    (strict (value_level (comp pred.name all.trees) into) (back_to all.slots all.state k) ∷ es) in
    omega arith)

-- a call of `solve` raises, goes on, or leaves the alternatives of a variable
label-lighter : (calls : CallWeights) (c : NameCall) (w : ValueWord) (s : State) (r : Rest) (o : Option Pending) →
    weight_by calls (label_step c w s r o) ≤ suc (going_weight calls r.goals (frames_weight calls r.frames (answer_weight calls 0 r.stack))) + stack_weight calls r.stack
unfolding weight_by now_weight stack_weight choice_weight answer_weight
label-lighter calls c w s r None = omega arith
label-lighter calls c w s r (Some p) = omega arith

-- the first round posts
begun-lighter : (calls : CallWeights) (x : Search) (s : State) (p : Operand) (es : List Entry) (b : Back) →
    now_weight calls (begun_now x s p) (answer_weight calls 0 (strict (search_level x false None) b ∷ es)) ≤ suc (search_weight false None)
unfolding now_weight answer_weight strict_answer_weight frames_weight
begun-lighter calls x s (reads r sum) es b = omega arith
begun-lighter calls x s (refuses ball) es b = omega arith

labels-lighter : (calls : CallWeights) (objective : Option Objective) (o : Options) (items : List Item) (c : NameCall) (r : Rest) →
    weight_by calls (labels_step objective o items c r) ≤ suc (suc (frames_weight calls (behind r.goals r.frames) (answer_weight calls 0 r.stack)) + search_weight false None) + stack_weight calls r.stack
unfolding weight_by stack_weight strict_weight
labels-lighter calls (Some objective) o items c r =
    let x : Search = search_of o objective c.all.trees in
    let h : _ = begun-lighter calls x c.all.state (operand_in objective.expression c.all.state) r.stack (back_to c.all.slots c.all.state (behind r.goals r.frames)) in
    omega (arith, h)
labels-lighter calls None o items c r =
    let s : State = confined c.all.state items in
    let h : _ = label-lighter calls c o.value s r (picked (pending s items) o.variable) in
    let same : _ = behind-weight calls r.goals r.frames (answer_weight calls 0 r.stack) in
    let below : _ = going-below calls r.goals (frames_weight calls r.frames (answer_weight calls 0 r.stack)) in
    omega (arith, h, same, below)

solve-lighter : (calls : CallWeights) (a : Option Asked) (c : NameCall) (r : Rest) →
    weight_by calls (solve_step a c r) ≤ suc (suc (frames_weight calls (behind r.goals r.frames) (answer_weight calls 0 r.stack)) + search_weight false None) + stack_weight calls r.stack
unfolding weight_by now_weight
solve-lighter calls None c r = omega arith
solve-lighter calls (Some (raises ball)) c r = omega arith
solve-lighter calls (Some (labels o items)) c r = labels-lighter calls o.objective o items c r

room-is : search_room ≡ search_weight false None + 4
unfolding search_room
room-is = refl

-- what a call weighs at least by its name
abbrev CallSearches : List PredTree → List Frame → List Entry → Config → Type 0
CallSearches preds k es c =
    let calls : CallWeights = program_calls preds in
    suc (suc (suc (frames_weight calls k (answer_weight calls 0 es)))) + search_room + stack_weight calls es ≤ weight preds c

later-lighter : (later : Bool) (preds : List PredTree) (name : List ℕ) (args : List Tree) (all : EvaluatedAll) (gs : GoalTrees) (k : List Frame) (es : List Entry) (c : Config) →
    is_later_predicate name (tree_count all.trees) ≡ later → is_call name (tree_count all.trees) ≡ false → is_effect_name name (tree_count all.trees) ≡ false →
    CallWeighs preds false name all (behind gs k) es c → CallSearches preds (behind gs k) es c → GetsLighter preds c (later_step later preds (name_call name args all) (with_rest gs k es))
later-lighter true preds name args all gs k es c is no_call built h room =
    let light : _ = solve-lighter (program_calls preds) (solve_asked name all.trees all.state) (name_call name args all) (with_rest gs k es) in
    omega (arith, light, room, room-is)
later-lighter false preds name args all gs k es c is no_call built h room =
    predicate-lighter preds (find_pred false name (tree_count all.trees) preds) name all (behind gs k) es c refl
    (none-of (is_call name (tree_count all.trees)) (is_predicate name (tree_count all.trees)) (is_later_predicate name (tree_count all.trees)) no_call (no-predicate name (tree_count all.trees) built) is) h

effect-step-lighter : (v : View) (o : Option Effect) (preds : List PredTree) (name : List ℕ) (args : List Tree) (e : Places) (s : State) (gs : GoalTrees) (k : List Frame) (es : List Entry) →
    let all : EvaluatedAll = evaluated_all (trees_of args) e s in
    predicate_effect name all.trees all.state ≡ o → is_call name (tree_count all.trees) ≡ false →
    GetsLighter preds (config (going (goal (call name args) gs) e s k) es) (effect_step v o preds (name_call name args all) (with_rest gs k es))
unfolding weight_by now_weight goal_weight
effect-step-lighter v None preds name args e s gs k es is other =
    let all : EvaluatedAll = evaluated_all (trees_of args) e s in
    let calls : CallWeights = program_calls preds in
    let a : ℕ = answer_weight calls 0 es in
    let r : ℕ = goals_weight calls gs (frames_weight calls k a) in
    let heavy : _ = call-heavy (is_call name (length args)) r in
    let many : calls false name (tree_count all.trees) r ≡ calls false name (length args) r = ap (λ n. calls false name n r) (given-many args e s) in
    later-lighter (is_later_predicate name (tree_count all.trees)) preds name args all gs k es (config (going (goal (call name args) gs) e s k) es) refl other
    (sym (effects-listed name all.trees all.state) ∙ ap is_some is)
    (subst (λ x. suc (suc x) + calls false name (tree_count all.trees) x + stack_weight calls es ≤ weight preds (config (going (goal (call name args) gs) e s k) es)) (sym (behind-weight calls gs k a)) (omega arith))
    (subst (λ x. suc (suc (suc x)) + search_room + stack_weight calls es ≤ weight preds (config (going (goal (call name args) gs) e s k) es)) (sym (behind-weight calls gs k a)) (omega arith))
effect-step-lighter v (Some d) preds name args e s gs k es is other =
    let all : EvaluatedAll = evaluated_all (trees_of args) e s in
    let calls : CallWeights = program_calls preds in
    let a : ℕ = answer_weight calls 0 es in
    let heavy : _ = call-heavy (is_call name (length args)) (goals_weight calls gs (frames_weight calls k a)) in
    let h : going_weight calls gs (frames_weight calls k a) ≤ goals_weight calls gs (frames_weight calls k a) = going-below calls gs (frames_weight calls k a) in
    let w : now_weight calls (done_now v all.state d gs all.slots k) a ≤ suc (going_weight calls gs (frames_weight calls k a)) = done-lighter calls v all.state d gs all.slots k a in
    omega arith

-- `call`, and any other name
name-lighter : (called : Bool) (v : View) (preds : List PredTree) (name : List ℕ) (args : List Tree) (e : Places) (s : State) (gs : GoalTrees) (k : List Frame) (es : List Entry) →
    let all : EvaluatedAll = evaluated_all (trees_of args) e s in
    is_call name (tree_count all.trees) ≡ called → GetsLighter preds (config (going (goal (call name args) gs) e s k) es) (name_step called v preds (name_call name args all) (with_rest gs k es))
unfolding weight_by now_weight goal_weight
name-lighter true v preds name args e s gs k es is =
    let all : EvaluatedAll = evaluated_all (trees_of args) e s in
    let calls : CallWeights = program_calls preds in
    let a : ℕ = answer_weight calls 0 es in
    let r : ℕ = goals_weight calls gs (frames_weight calls k a) in
    let heavy : call_weight (is_call name (length args)) r ≡ suc (suc (suc (suc (suc r)))) + search_room = ap (λ n. call_weight (is_call name n) r) (sym (given-many args e s)) ∙ ap (λ b. call_weight b r) is in
    let light : _ = first-lighter preds all.trees all.state (returning all.slots (behind gs k)) a in
    let back : _ = returning-weight calls all.slots (behind gs k) a in
    let same : frames_weight calls (behind gs k) a ≡ r = behind-weight calls gs k a in
    omega arith
name-lighter false v preds name args e s gs k es is =
    let all : EvaluatedAll = evaluated_all (trees_of args) e s in
    effect-step-lighter v (predicate_effect name all.trees all.state) preds name args e s gs k es refl is

later-value-lighter : (later : Bool) (preds : List PredTree) (name : List ℕ) (args : List Tree) (all : EvaluatedAll) (into : ℕ) (k : List Frame) (es : List Entry) (c : Config) → is_later_function name (tree_count all.trees) ≡ later →
    is_resource name (tree_count all.trees) ≡ false → is_value_name name (tree_count all.trees) ≡ false → CallWeighs preds true name all k es c → GetsLighter preds c (later_value later preds (name_call name args all) into k es)
unfolding weight_by now_weight
later-value-lighter true preds name args all into k es c is resource built h = omega arith
later-value-lighter false preds name args all into k es c is resource built h =
    function-lighter preds (find_pred true name (tree_count all.trees) preds) name all into k es c refl
    (none-of (is_function name (tree_count all.trees)) (is_resource name (tree_count all.trees)) (is_later_function name (tree_count all.trees)) (no-function name (tree_count all.trees) built) resource is) h

value-given-lighter : (preds : List PredTree) (d : FunctionEffect) (name : List ℕ) (args : List Tree) (into : ℕ) (e : Places) (s : State) (all : EvaluatedAll) (gs : GoalTrees) (k : List Frame) (es : List Entry) →
    GetsLighter preds (config (going (goal (apply name args into) gs) e s k) es) (silently (config (given_now d into gs all.slots k) es))
unfolding weight_by now_weight goal_weight
value-given-lighter preds d name args into e s all gs k es =
    let calls : CallWeights = program_calls preds in
    let a : ℕ = answer_weight calls 0 es in
    let h : going_weight calls gs (frames_weight calls k a) ≤ goals_weight calls gs (frames_weight calls k a) = going-below calls gs (frames_weight calls k a) in
    let w : now_weight calls (given_now d into gs all.slots k) a ≤ suc (going_weight calls gs (frames_weight calls k a)) = given-lighter calls d into gs all.slots k a in
    omega arith

other-value-lighter : (resource : Bool) (v : View) (preds : List PredTree) (name : List ℕ) (args : List Tree) (into : ℕ) (e : Places) (s : State) (gs : GoalTrees) (k : List Frame) (es : List Entry) →
    let all : EvaluatedAll = evaluated_all (trees_of args) e s in
    is_resource name (tree_count all.trees) ≡ resource → is_value_name name (tree_count all.trees) ≡ false →
    GetsLighter preds (config (going (goal (apply name args into) gs) e s k) es) (other_value resource v preds (name_call name args all) into (with_rest gs k es))
unfolding weight_by now_weight goal_weight
other-value-lighter true v preds name args into e s gs k es is built =
    let all : EvaluatedAll = evaluated_all (trees_of args) e s in value-given-lighter preds (resource_effect v.within all.state) name args into e s all gs k es
other-value-lighter false v preds name args into e s gs k es is built =
    let all : EvaluatedAll = evaluated_all (trees_of args) e s in
    let calls : CallWeights = program_calls preds in
    let a : ℕ = answer_weight calls 0 es in
    let r : ℕ = goals_weight calls gs (frames_weight calls k a) in
    let many : calls true name (tree_count all.trees) r ≡ calls true name (length args) r = ap (λ n. calls true name n r) (given-many args e s) in
    later-value-lighter (is_later_function name (tree_count all.trees)) preds name args all into (behind gs k) es (config (going (goal (apply name args into) gs) e s k) es) refl is built
    (subst (λ x. suc (suc x) + calls true name (tree_count all.trees) x + stack_weight calls es ≤ weight preds (config (going (goal (apply name args into) gs) e s k) es)) (sym (behind-weight calls gs k a)) (omega arith))

value-step-lighter : (v : View) (o : Option FunctionEffect) (preds : List PredTree) (name : List ℕ) (args : List Tree) (into : ℕ) (e : Places) (s : State) (gs : GoalTrees) (k : List Frame) (es : List Entry) →
    let all : EvaluatedAll = evaluated_all (trees_of args) e s in
    value_effect name all.trees all.state ≡ o → GetsLighter preds (config (going (goal (apply name args into) gs) e s k) es) (value_step v o preds (name_call name args all) into (with_rest gs k es))
value-step-lighter v None preds name args into e s gs k es is =
    let all : EvaluatedAll = evaluated_all (trees_of args) e s in
    other-value-lighter (is_resource name (tree_count all.trees)) v preds name args into e s gs k es refl (sym (values-listed name all.trees all.state) ∙ ap is_some is)
value-step-lighter v (Some d) preds name args into e s gs k es is =
    let all : EvaluatedAll = evaluated_all (trees_of args) e s in value-given-lighter preds d name args into e s all gs k es

goal-lighter : (v : View) (preds : List PredTree) (g : GoalTree) (gs : GoalTrees) (e : Places) (s : State) (k : List Frame) (es : List Entry) →
    GetsLighter preds (config (going (goal g gs) e s k) es) (goal_step v preds g e s (with_rest gs k es))
unfolding goal_step weight_by now_weight stack_weight answer_weight goal_weight goals_weight frames_weight strict_answer_weight strict_weight
goal-lighter v preds truth gs e s k es =
    let calls : CallWeights = program_calls preds in
    let h : going_weight calls gs (frames_weight calls k (answer_weight calls 0 es)) ≤ goals_weight calls gs (frames_weight calls k (answer_weight calls 0 es)) = going-below calls gs (frames_weight calls k (answer_weight calls 0 es)) in omega arith
goal-lighter v preds fail gs e s k es = omega arith
goal-lighter v preds tick gs e s k es = tt
goal-lighter v preds (call name args) gs e s k es =
    let all : EvaluatedAll = evaluated_all (trees_of args) e s in
    name-lighter (is_call name (tree_count all.trees)) v preds name args e s gs k es refl
goal-lighter v preds (apply name args into) gs e s k es =
    let all : EvaluatedAll = evaluated_all (trees_of args) e s in
    value-step-lighter v (value_effect name all.trees all.state) preds name args into e s gs k es refl
goal-lighter v preds (seq hs) gs e s k es =
    let calls : CallWeights = program_calls preds in
    let a : ℕ = answer_weight calls 0 es in
    let h : going_weight calls hs (frames_weight calls (behind gs k) a) ≤ goals_weight calls hs (frames_weight calls (behind gs k) a) = going-below calls hs (frames_weight calls (behind gs k) a) in
    subst (λ x. going_weight calls hs (frames_weight calls (behind gs k) a) + stack_weight calls es < suc (goals_weight calls hs x) + stack_weight calls es) (behind-weight calls gs k a) (omega arith)
goal-lighter v preds (alternatives hs) gs e s k es =
    let calls : CallWeights = program_calls preds in
    subst (λ x. weight_by calls (branch hs (back_to e s (behind gs k)) es) < suc (branches_weight calls hs x) + stack_weight calls es) (behind-weight calls gs k (answer_weight calls 0 es))
    (branch-lighter calls hs (back_to e s (behind gs k)) es)
goal-lighter v preds (if_else test g other) gs e s k es = rw (behind-weight (program_calls preds) gs k (answer_weight (program_calls preds) 0 es)) (omega arith)
goal-lighter v preds (not g) gs e s k es = rw (behind-weight (program_calls preds) gs k (answer_weight (program_calls preds) 0 es)) (omega arith)
goal-lighter v preds (once g) gs e s k es = rw (behind-weight (program_calls preds) gs k (answer_weight (program_calls preds) 0 es)) (omega arith)
goal-lighter v preds (collect g slot into) gs e s k es = rw (behind-weight (program_calls preds) gs k (answer_weight (program_calls preds) 0 es)) (omega arith)
goal-lighter v preds (count g into) gs e s k es = rw (behind-weight (program_calls preds) gs k (answer_weight (program_calls preds) 0 es)) (omega arith)
goal-lighter v preds (catch g ball handler) gs e s k es = rw (behind-weight (program_calls preds) gs k (answer_weight (program_calls preds) 0 es)) (omega arith)

-- ---- answers

-- a level with other values or another number so far
list-answers : (calls : CallWeights) (slot into : ℕ) (got other : List Tree) (b : Back) (below : List Entry) (n : ℕ) →
    answer_weight calls n (strict (list_level slot into got) b ∷ below) ≡ answer_weight calls n (strict (list_level slot into other) b ∷ below)
unfolding answer_weight strict_answer_weight
list-answers calls slot into got other b below zero = refl
list-answers calls slot into got other b below (suc n) = refl

list-same : (calls : CallWeights) (slot into : ℕ) (got other : List Tree) (b : Back) (below : List Entry) → SameWeight calls (strict (list_level slot into got) b ∷ below) (strict (list_level slot into other) b ∷ below)
unfolding answer_weight stack_weight strict_answer_weight strict_weight
list-same calls slot into got other b below = (list-answers calls slot into got other b below, refl)

number-answers : (calls : CallWeights) (into n m : ℕ) (b : Back) (below : List Entry) (i : ℕ) →
    answer_weight calls i (strict (number_level into n) b ∷ below) ≡ answer_weight calls i (strict (number_level into m) b ∷ below)
unfolding answer_weight strict_answer_weight
number-answers calls into n m b below zero = refl
number-answers calls into n m b below (suc i) = refl

number-same : (calls : CallWeights) (into n m : ℕ) (b : Back) (below : List Entry) → SameWeight calls (strict (number_level into n) b ∷ below) (strict (number_level into m) b ∷ below)
unfolding answer_weight stack_weight strict_answer_weight strict_weight
number-same calls into n m b below = (number-answers calls into n m b below, refl)

raise-or-fail : (calls : CallWeights) (big : Bool) (t : Tree) (a : ℕ) → now_weight calls (cond big (raising t) failed) a ≤ 1
unfolding now_weight
raise-or-fail calls true t a = omega arith
raise-or-fail calls false t a = omega arith

-- what a round labels
round-lighter : (calls : CallWeights) (x : Search) (f : Option Found) (s : State) (a : Option Asked) (b : Back) (below : List Entry) →
    weight_by calls (round_step a (round_call x s) (with_rest no_goals [] (strict (search_level x true f) b ∷ below)))
    ≤ suc (search_weight true f) + (suc (frames_weight calls b.frames (answer_weight calls 0 below)) + stack_weight calls below)
unfolding weight_by now_weight stack_weight strict_weight answer_weight strict_answer_weight frames_weight goals_weight
round-lighter calls x f s None b below = omega arith
round-lighter calls x f s (Some (raises ball)) b below = omega arith
round-lighter calls x f s (Some (labels o items)) b below =
    let q : State = confined s items in
    label-lighter calls (round_call x s) o.value q (with_rest no_goals [] (strict (search_level x true f) b ∷ below)) (picked (pending q items) o.variable)

-- the next round posts
bettered-lighter : (calls : CallWeights) (x : Search) (s : State) (n : ℕ) (q : State) (p : Result Posting Refusal) (b : Back) (below : List Entry) →
    let f : Option Found = Some (record { state = q; left = n }) in
    now_weight calls (bettered_now x s p) (answer_weight calls 0 (strict (search_level x false f) b ∷ below)) ≤ suc (search_weight false f)
unfolding now_weight answer_weight strict_answer_weight frames_weight
bettered-lighter calls x s n q (Ok p) b below = omega arith
bettered-lighter calls x s n q (Err r) b below = omega arith

next-lighter : (calls : CallWeights) (x : Search) (n m : ℕ) → n ≤ m → (q : State) (i : ℤ) (b : Back) (below : List Entry) →
    weight_by calls (next_round n x q i b below) < (4 * m + 3) + (suc (frames_weight calls b.frames (answer_weight calls 0 below)) + stack_weight calls below)
unfolding next_round weight_by now_weight stack_weight strict_weight goals_weight
next-lighter calls x zero m h q i b below = omega arith
next-lighter calls x (suc n) m h q i b below =
    let k : _ = bettered-lighter calls x b.state n q (posting_in b.state (better_goal x.objective i)) b below in omega (arith, h, k)

few-better : (greatest : Bool) (i : ℤ) → count_better greatest i ≤ 2 ^ 128
few-better false i = omega arith
few-better true i = omega arith

few-rounds : (w : Objective) (f : Option Found) (i : ℤ) → rounds_after w f i ≤ rounds_left f
few-rounds w None i = few-better w.greatest i
few-rounds w (Some f) i = omega arith

-- an answer of a round is weighed
weighed-lighter : (calls : CallWeights) (x : Search) (f : Option Found) (q : State) (o : Option ℤ) (b : Back) (below : List Entry) →
    weight_by calls (weighed_step x f q o b below) < search_weight true f + (suc (frames_weight calls b.frames (answer_weight calls 0 below)) + stack_weight calls below)
unfolding weight_by now_weight
weighed-lighter calls x f q None b below = omega arith
weighed-lighter calls x f q (Some i) b below = next-lighter calls x (rounds_after x.objective f i) (rounds_left f) (few-rounds x.objective f i) q i b below

strict-answer-lighter : (calls : CallWeights) (level : Strict) (e : Places) (s : State) (above : List Entry) (b : Back) (below : List Entry) → IsClosed 0 above →
    Lighter calls (strict_step level e s above b below) (answer_weight calls 0 (above ++ strict level b ∷ below) + stack_weight calls (above ++ strict level b ∷ below))
unfolding strict_step weight_by now_weight stack_weight answer_weight strict_answer_weight strict_weight goals_weight
strict-answer-lighter calls once_level e s above b below h =
    let c : _ = closed-answer calls 0 above (strict once_level b ∷ below) h in
    let m : _ = below-weight calls above (strict once_level b ∷ below) in omega arith
strict-answer-lighter calls not_level e s above b below h =
    let c : _ = closed-answer calls 0 above (strict not_level b ∷ below) h in
    let m : _ = below-weight calls above (strict not_level b ∷ below) in omega arith
strict-answer-lighter calls (if_level g other) e s above b below h =
    let c : _ = closed-answer calls 0 above (strict (if_level g other) b ∷ below) h in
    let m : _ = below-weight calls above (strict (if_level g other) b ∷ below) in omega arith
strict-answer-lighter calls (guard_level called d cs) e s above b below h =
    let c : _ = closed-answer calls 0 above (strict (guard_level called d cs) b ∷ below) h in
    let m : _ = below-weight calls above (strict (guard_level called d cs) b ∷ below) in
    let k : _ = taken-lighter calls called d cs b below e s in omega arith
strict-answer-lighter calls (value_level called into) e s above b below h =
    let c : _ = closed-answer calls 0 above (strict (value_level called into) b ∷ below) h in
    let m : _ = below-weight calls above (strict (value_level called into) b ∷ below) in omega arith
strict-answer-lighter calls (list_level slot into got) e s above b below h =
    let big : Bool = nat_lt most_cells (cells (slot_value slot e s)) in
    let c : _ = closed-answer calls 0 above (strict (list_level slot into got) b ∷ below) h in
    let other : List Tree = cond big got (got ++ slot_value slot e s ∷ []) in
    let m : _ = (same-weight calls above (strict (list_level slot into got) b ∷ below) (strict (list_level slot into other) b ∷ below) (list-same calls slot into got other b below)).1 in
    let n : _ = raise-or-fail calls big (atom (codes "term_too_large")) (answer_weight calls 0 (above ++ strict (list_level slot into other) b ∷ below)) in omega arith
strict-answer-lighter calls (number_level into n) e s above b below h =
    let c : _ = closed-answer calls 0 above (strict (number_level into n) b ∷ below) h in
    let m : _ = (same-weight calls above (strict (number_level into n) b ∷ below) (strict (number_level into (suc n)) b ∷ below) (number-same calls into n (suc n) b below)).1 in omega arith
strict-answer-lighter calls (search_level x false f) e s above b below h =
    let c : _ = closed-answer calls 0 above (strict (search_level x false f) b ∷ below) h in
    let m : _ = below-weight calls above (strict (search_level x false f) b ∷ below) in
    let k : _ = round-lighter calls x f s (solve_asked (codes "solve") (search_args x) s) b below in omega arith
strict-answer-lighter calls (search_level x true f) e s above b below h =
    let c : _ = closed-answer calls 0 above (strict (search_level x true f) b ∷ below) h in
    let m : _ = below-weight calls above (strict (search_level x true f) b ∷ below) in
    let k : _ = weighed-lighter calls x f s (worth_in x s) b below in omega arith

catch-answer-lighter : (calls : CallWeights) (e : Places) (s : State) (above : List Entry) (ball : Tree) (handler : GoalTree) (b : Back) (below : List Entry) → IsClosed 0 above →
    Lighter calls (config (going no_goals e s b.frames) (leave above ball handler b below)) (answer_weight calls 0 (above ++ catch_level ball handler b ∷ below) + stack_weight calls (above ++ catch_level ball handler b ∷ below))
unfolding weight_by now_weight stack_weight answer_weight
catch-answer-lighter calls e s [] ball handler b below h = omega arith
catch-answer-lighter calls e s (x ∷ above) ball handler b below h =
    let c : _ = closed-answer calls 0 (x ∷ above) (catch_level ball handler b ∷ below) h in
    let m : _ = left-answer calls 0 (x ∷ above) h ball handler b below in
    rw m (omega arith)

-- with no level open
closed-query : (calls : CallWeights) (n : ℕ) (es : List Entry) → IsClosed n es → answer_weight calls n es ≡ 2
unfolding IsClosed answer_weight
closed-query calls zero [] h = refl
closed-query calls (suc n) [] h = absurd h
closed-query calls n (choice c b ∷ es) h = closed-query calls n es h
closed-query calls n (strict level b ∷ es) h = absurd h
closed-query calls zero (catch_level ball handler b ∷ es) h = absurd h
closed-query calls (suc n) (catch_level ball handler b ∷ es) h = closed-query calls n es h
closed-query calls n (left ∷ es) h = closed-query calls (suc n) es h

told-lighter : (preds : List PredTree) (fit : Bool) (x : Solution) (e : Places) (s : State) (es : List Entry) → answer_weight (program_calls preds) 0 es ≡ 2 → GetsLighter preds (config (going no_goals e s []) es) (told_step fit x es)
unfolding weight_by now_weight frames_weight stack_weight
told-lighter preds true x e s es h = omega arith
told-lighter preds false x e s es h = omega arith

answer-lighter : (preds : List PredTree) (names : List NameSlot) (e : Places) (s : State) (es : List Entry) → IsBalanced 0 es → (o : Open) → IsFound 0 es o → GetsLighter preds (config (going no_goals e s []) es) (answer_step names e s es o)
unfolding answer_step IsFound weight_by now_weight frames_weight
answer-lighter preds names e s es h none_open f =
    told-lighter preds (fits names (record { slots = e; state = s })) (record { slots = e; state = s }) e s es (closed-query (program_calls preds) 0 es (f h))
answer-lighter preds names e s es h (strict_open above level b below) f =
    subst (λ xs. weight_by (program_calls preds) (strict_step level e s above b below) < answer_weight (program_calls preds) 0 xs + stack_weight (program_calls preds) xs) (sym f.0) (strict-answer-lighter (program_calls preds) level e s above b below (f.1 h))
answer-lighter preds names e s es h (catch_open above ball handler b below) f =
    subst (λ xs. weight_by (program_calls preds) (config (going no_goals e s b.frames) (leave above ball handler b below)) < answer_weight (program_calls preds) 0 xs + stack_weight (program_calls preds) xs) (sym f.0)
    (catch-answer-lighter (program_calls preds) e s above ball handler b below (f.1 h))

-- ---- ends

choice-lighter : (preds : List PredTree) (c : Choice) (b : Back) (es : List Entry) → GetsLighter preds (config failed (choice c b ∷ es)) (choice_step c b es)
unfolding weight_by now_weight stack_weight choice_weight
choice-lighter preds (rules_left called cs) b es = let h : _ = rules-lighter (program_calls preds) called cs b es in omega arith
choice-lighter preds (facts_left ts cs) b es = let h : _ = facts-lighter (program_calls preds) ts cs b es in omega arith
choice-lighter preds (branches_left gs) b es = let h : _ = branch-lighter (program_calls preds) gs b es in omega arith
choice-lighter preds (alternatives_left name args p []) b es = omega arith
choice-lighter preds (alternatives_left name args p (a ∷ alts)) b es = tt

end-lighter : (calls : CallWeights) (level : Strict) (b : Back) (es : List Entry) → Lighter calls (end_step level b es) (weight_by calls (config failed (strict level b ∷ es)))
unfolding weight_by now_weight stack_weight strict_weight end_step goals_weight
end-lighter calls once_level b es = omega arith
end-lighter calls not_level b es = omega arith
end-lighter calls (if_level g other) b es = omega arith
end-lighter calls (guard_level called c cs) b es = let h : _ = rules-lighter calls called cs b es in omega arith
end-lighter calls (value_level called into) b es = omega arith
end-lighter calls (list_level slot into got) b es = omega arith
end-lighter calls (number_level into n) b es = omega arith
end-lighter calls (search_level x labelled None) b es = omega arith
end-lighter calls (search_level x labelled (Some f)) b es = omega arith

fail-lighter : (preds : List PredTree) (es : List Entry) → GetsLighter preds (config failed es) (fail_step es)
unfolding fail_step weight_by now_weight stack_weight
fail-lighter preds [] = tt
fail-lighter preds (choice c b ∷ es) = choice-lighter preds c b es
fail-lighter preds (strict level b ∷ es) = end-lighter (program_calls preds) level b es
fail-lighter preds (catch_level ball handler b ∷ es) = omega arith
fail-lighter preds (left ∷ es) = omega arith

choice-weighs : (calls : CallWeights) (c : Choice) (r a : ℕ) → 1 ≤ choice_weight calls c r a
unfolding choice_weight
choice-weighs calls (rules_left called cs) r a = omega arith
choice-weighs calls (facts_left ts cs) r a = omega arith
choice-weighs calls (branches_left gs) r a = omega arith
choice-weighs calls (alternatives_left name args p alts) r a = omega arith

strict-weighs : (calls : CallWeights) (level : Strict) (r a : ℕ) → 1 ≤ strict_weight calls level r a
unfolding strict_weight
strict-weighs calls once_level r a = omega arith
strict-weighs calls not_level r a = omega arith
strict-weighs calls (if_level g other) r a = omega arith
strict-weighs calls (guard_level called c cs) r a = omega arith
strict-weighs calls (value_level called into) r a = omega arith
strict-weighs calls (list_level slot into got) r a = omega arith
strict-weighs calls (number_level into n) r a = omega arith
strict-weighs calls (search_level x labelled f) r a = omega arith

handler-lighter : (calls : CallWeights) (handler : GoalTree) (b : Back) (raised : Tree) (o : Option State) (a : ℕ) →
    now_weight calls (handler_step handler b raised o) a < suc (suc (goal_weight calls handler (frames_weight calls b.frames a)))
unfolding now_weight goals_weight
handler-lighter calls handler b raised None a = omega arith
handler-lighter calls handler b raised (Some s) a = omega arith

below-lighter : (calls : CallWeights) (es : List Entry) (o : Open) → IsMatched 0 es o → stack_weight calls (below_left o es) ≤ stack_weight calls es
unfolding IsMatched stack_weight
below-lighter calls es none_open h = absurd h
below-lighter calls es (strict_open above level b below) h = absurd h
below-lighter calls es (catch_open above ball handler b below) h =
    let m : _ = below-weight calls above (catch_level ball handler b ∷ below) in
    subst (λ xs. stack_weight calls below ≤ stack_weight calls xs) (sym h.0) (omega arith)

raise-lighter : (preds : List PredTree) (raised : Tree) (es : List Entry) → IsBalanced 0 es → GetsLighter preds (config (raising raised) es) (raise_step raised es)
unfolding raise_step weight_by now_weight stack_weight IsBalanced
raise-lighter preds raised [] h = tt
raise-lighter preds raised (choice c b ∷ es) h =
    let w : _ = choice-weighs (program_calls preds) c (frames_weight (program_calls preds) b.frames (answer_weight (program_calls preds) 0 es)) (answer_weight (program_calls preds) 0 es) in omega arith
raise-lighter preds raised (strict level b ∷ es) h =
    let w : _ = strict-weighs (program_calls preds) level (frames_weight (program_calls preds) b.frames (answer_weight (program_calls preds) 0 es)) (answer_weight (program_calls preds) 0 es) in omega arith
raise-lighter preds raised (catch_level ball handler b ∷ es) h =
    let w : _ = handler-lighter (program_calls preds) handler b raised (unified (with_new_variables (new_variables raised) b.state) ball (copy (next b.state) raised)) (answer_weight (program_calls preds) 0 es) in omega arith
raise-lighter preds raised (left ∷ es) h =
    let w : _ = below-lighter (program_calls preds) es (newest_open zero es) (left-matched 0 es h) in omega arith

telling-lighter : (calls : CallWeights) (text : List ℕ) (gs : GoalTrees) (e : Places) (s : State) (k : List Frame) (es : List Entry) →
    weight_by calls (config (going gs e s k) es) < weight_by calls (config (telling text gs e s k) es)
unfolding weight_by now_weight
telling-lighter calls text gs e s k es = omega arith

-- what is left weighs less than what is settled
left-lighter : (calls : CallWeights) (o : Option State) (gs : GoalTrees) (e : Places) (k : List Frame) (a : ℕ) → now_weight calls (left_now o gs e k) a < suc (going_weight calls gs (frames_weight calls k a))
unfolding now_weight
left-lighter calls None gs e k a = omega arith
left-lighter calls (Some r) gs e k a = omega arith

loaded-lighter : (preds : List PredTree) (n : ℕ) (c after : Config) → weight preds after < weight preds c → GetsLighter preds c (loaded_step n after)
loaded-lighter preds zero c after h = h
loaded-lighter preds (suc n) c after h = h

settled-lighter : (preds : List PredTree) (before s : State) (gs : GoalTrees) (e : Places) (k : List Frame) (es : List Entry) (m : Settlement) → GetsLighter preds (config (settling before s gs e k) es) (settle_step m gs e k es)
unfolding weight_by now_weight
settled-lighter preds before s gs e k es m =
    loaded-lighter preds m.load (config (settling before s gs e k) es) (config (left_now m.left gs e k) es)
    (let h : _ = left-lighter (program_calls preds) m.left gs e k (answer_weight (program_calls preds) 0 es) in omega arith)

-- ---- all

now-lighter : (v : View) (preds : List PredTree) (names : List NameSlot) (now : Now) (es : List Entry) → IsBalanced 0 es → GetsLighter preds (config now es) (now_step v preds names now es)
now-lighter v preds names (going (goal g gs) e s k) es h = goal-lighter v preds g gs e s k es
now-lighter v preds names (going no_goals e s []) es h = answer-lighter preds names e s es h (newest_open zero es) (newest-found zero es)
now-lighter v preds names (going no_goals e s (f ∷ k)) es h = frame-lighter (program_calls preds) f e s k es
now-lighter v preds names (settling before s gs e k) es h = settled-lighter preds before s gs e k es (settlement before s)
now-lighter v preds names (telling text gs e s k) es h = telling-lighter (program_calls preds) text gs e s k es
now-lighter v preds names failed es h = fail-lighter preds es
now-lighter v preds names (raising raised) es h = raise-lighter preds raised es h

pub step-lighter : (v : View) (preds : List PredTree) (names : List NameSlot) (c : Config) → IsGood c → GetsLighter preds c (step v preds names c)
unfolding step
step-lighter v preds names c h = now-lighter v preds names c.now c.stack h.balanced
