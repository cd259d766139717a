-- Each step leaves a stack in which each mark of a `catch` that was left has its `catch`.
use Rattle.std.proofs.Common.{ℕ, zero, suc, List, [], ◌∷◌, ◌++◌, subst}
use Rattle.std.specs.Prelude.{ℤ, Bool, true, false, Option, Some, None, cond, codes, replicate}
use Rattle.std.specs.List.{list_any}
use Rattle.pi_terms.specs.Tree.{Tree, Trees, tree_count, trees_of}
use Rattle.pi_terms.specs.Places.{Places}
use Rattle.pi_constraints.specs.State.{State, bindings}
use Rattle.pi_core.specs.GoalTree.{GoalTree, truth, fail, tick, call, apply, seq, alternatives, if_else, not, once, collect, count, catch, GoalTrees, no_goals, goal}
use Rattle.pi_core.specs.CoreTree.{ClauseTree, PredTree, find_pred, leaves_others}
use Rattle.pi_meaning.specs.Shared.View.{View}
use Rattle.pi_meaning.specs.Shared.Names.{is_later_predicate, is_later_function, is_resource, is_call}
use Rattle.pi_constraints.specs.Evaluation.{EvaluatedAll, evaluated_all}
use Rattle.pi_constraints.specs.HeadMatch.{matched_all_in}
use Rattle.pi_meaning.specs.CoreMeaning.Facts.{fits_modes}
use Rattle.pi_meaning.specs.CoreMeaning.Run.{Solution}
use Rattle.pi_syntax.specs.declared.program.Mode.{Mode}
use Rattle.pi_core.specs.declared.core_program.NameSlot.{NameSlot}
use Rattle.pi_meaning.specs.Machine.Configuration.{Frame, more, return, give, Back, Called, Choice, rules_left, facts_left, branches_left, alternatives_left, Strict, once_level, not_level, if_level, guard_level, value_level, list_level, number_level, Search, Found, search_level, Entry, choice, strict, catch_level, left, Now, going, settling, failed, raising, Config, config, behind, telling}
use Rattle.pi_meaning.specs.Machine.Step.{back_to, branch, guarding, tried, try_rules, with_fact, from_unifying, later_facts, fact_tried, try_facts, try_clauses, later_rules, call_step, predicate_step, effect_step, function_step, value_step, goal_step, frame_step, Open, none_open, strict_open, catch_open, newest_open, strict_step, leave, fits, told_step, answer_step, choice_step, end_step, fail_step, below_left, raise_step, now_step, step, later_step, name_step, later_value, other_value, trial, with_rest, Rest, NameCall, name_call, left_now, loaded_step, later_alternatives, alternatives_step, label_step, labels_step, solve_step, search_args, round_call, rounds_after, next_round, weighed_step, worth_in, searched, round_step}
use Rattle.pi_meaning.specs.Machine.Shape.{IsBalanced, IsGood}
use Rattle.pi_meaning.specs.Machine.Laws.{GoesOnGood}
use Rattle.pi_meaning.proofs.Machine.StackLemmas.{IsClosed, IsFound, newest-found}
use Rattle.pi_meaning.proofs.Machine.EndSteps.{IsMatched, left-matched}
use Rattle.pi_effects.specs.Effect.{Effect, FunctionEffect}
use Rattle.pi_meaning.specs.Shared.Effects.{predicate_effect, value_effect}
use Rattle.pi_meaning.specs.Shared.Settle.{settlement}
use Rattle.pi_constraints.specs.declared.constraint.Item.{Item}
use Rattle.pi_settling.specs.Options.{Options, Objective, ValueWord}
use Rattle.pi_settling.specs.Asked.{Asked, labels, raises}
use Rattle.pi_settling.specs.SolveCalls.{solve_asked}
use Rattle.pi_settling.specs.Confined.{confined}
use Rattle.pi_settling.specs.Choices.{Pending, pending, picked, Alternative}

pub closed-rest : (n : ℕ) (above rest : List Entry) → IsClosed n above → IsBalanced n (above ++ rest) → IsBalanced 0 rest
unfolding IsClosed IsBalanced
closed-rest zero [] rest h b = b
closed-rest (suc n) [] rest h b = absurd h
closed-rest n (choice c k ∷ es) rest h b = closed-rest n es rest h b
closed-rest n (strict s k ∷ es) rest h b = absurd h
closed-rest zero (catch_level ball handler k ∷ es) rest h b = absurd h
closed-rest (suc n) (catch_level ball handler k ∷ es) rest h b = closed-rest n es rest h b
closed-rest n (left ∷ es) rest h b = closed-rest (suc n) es rest h b

pub rest-closed : (n : ℕ) (above rest : List Entry) → IsClosed n above → IsBalanced 0 rest → IsBalanced n (above ++ rest)
unfolding IsClosed IsBalanced
rest-closed zero [] rest h b = b
rest-closed (suc n) [] rest h b = absurd h
rest-closed n (choice c k ∷ es) rest h b = rest-closed n es rest h b
rest-closed n (strict s k ∷ es) rest h b = absurd h
rest-closed zero (catch_level ball handler k ∷ es) rest h b = absurd h
rest-closed (suc n) (catch_level ball handler k ∷ es) rest h b = rest-closed n es rest h b
rest-closed n (left ∷ es) rest h b = rest-closed (suc n) es rest h b

-- with one more mark above, the `catch` below closed entries is met
rest-left : (n : ℕ) (above : List Entry) → IsClosed n above → (ball : Tree) (handler : GoalTree) (b : Back) (below : List Entry) → IsBalanced 0 below →
    IsBalanced (suc n) (above ++ catch_level ball handler b ∷ below)
unfolding IsClosed IsBalanced
rest-left zero [] h ball handler b below g = g
rest-left (suc n) [] h ball handler b below g = absurd h
rest-left n (choice c k ∷ es) h ball handler b below g = rest-left n es h ball handler b below g
rest-left n (strict s k ∷ es) h ball handler b below g = absurd h
rest-left zero (catch_level t w k ∷ es) h ball handler b below g = absurd h
rest-left (suc n) (catch_level t w k ∷ es) h ball handler b below g = rest-left n es h ball handler b below g
rest-left n (left ∷ es) h ball handler b below g = rest-left (suc n) es h ball handler b below g

-- the stack of a configuration
abbrev pub Keeps : Config → Type 0
Keeps c = IsBalanced 0 c.stack

branch-keeps : (gs : GoalTrees) (b : Back) (es : List Entry) → IsBalanced 0 es → Keeps (branch gs b es)
unfolding IsBalanced
branch-keeps no_goals b es h = h
branch-keeps (goal g no_goals) b es h = h
branch-keeps (goal g (goal i gs)) b es h = h

later-keep : (back : Bool) (called : Called) (cs : List ClauseTree) (b : Back) (es : List Entry) → IsBalanced 0 es → IsBalanced 0 (later_rules back called cs b es)
unfolding IsBalanced
later-keep false called cs b es h = h
later-keep true called [] b es h = h
later-keep true called (c ∷ cs) b es h = h

guarding-keeps : (g : GoalTree) (called : Called) (c : ClauseTree) (cs : List ClauseTree) (b : Back) (es : List Entry) (e : Places) → IsBalanced 0 es → Keeps (guarding g (trial called c cs b es) e)
unfolding IsBalanced
guarding-keeps truth called c cs b es e h = later-keep (leaves_others called.function c) called cs b es h
guarding-keeps g called c cs b es e h = h

tried-keeps : (called : Called) (c : ClauseTree) (cs : List ClauseTree) (b : Back) (es : List Entry) (e : Option Places) (otherwise : Config) → IsBalanced 0 es → Keeps otherwise →
    Keeps (tried (trial called c cs b es) e otherwise)
tried-keeps called c cs b es None otherwise h o = o
tried-keeps called c cs b es (Some e) otherwise h o = guarding-keeps c.guard called c cs b es e h

pub rules-keep : (called : Called) (cs : List ClauseTree) (b : Back) (es : List Entry) → IsBalanced 0 es → Keeps (try_rules called cs b es)
unfolding try_rules
rules-keep called [] b es h = h
rules-keep called (c ∷ cs) b es h =
    tried-keeps called c cs b es (matched_all_in (bindings b.state) c.head called.args (replicate c.slots None)) (try_rules called cs b es) h (rules-keep called cs b es h)

later-facts-keep : (ts : Trees) (cs : List ClauseTree) (b : Back) (es : List Entry) → IsBalanced 0 es → IsBalanced 0 (later_facts ts cs b es)
unfolding IsBalanced
later-facts-keep ts [] b es h = h
later-facts-keep ts (c ∷ cs) b es h = h

fact-keeps : (ts : Trees) (cs : List ClauseTree) (b : Back) (es : List Entry) (o : Option State) (otherwise : Config) → IsBalanced 0 es → Keeps otherwise → Keeps (fact_tried ts cs b es o otherwise)
fact-keeps ts cs b es None otherwise h k = k
fact-keeps ts cs b es (Some r) otherwise h k = later-facts-keep ts (from_unifying ts b.state cs) b es h

facts-keep : (ts : Trees) (cs : List ClauseTree) (b : Back) (es : List Entry) → IsBalanced 0 es → Keeps (try_facts ts cs b es)
unfolding try_facts
facts-keep ts [] b es h = h
facts-keep ts (c ∷ cs) b es h = fact-keeps ts cs b es (with_fact ts b.state c) (try_facts ts cs b es) h (facts-keep ts cs b es h)

fitting-keeps : (fits : Bool) (ts : Trees) (cs : List ClauseTree) (b : Back) (es : List Entry) → IsBalanced 0 es → Keeps (cond fits (try_facts ts cs b es) (config failed es))
fitting-keeps true ts cs b es h = facts-keep ts cs b es h
fitting-keeps false ts cs b es h = h

clauses-keep : (index : Option (List (List Mode))) (cs : List ClauseTree) (ts : Trees) (b : Back) (es : List Entry) → IsBalanced 0 es → Keeps (try_clauses index cs ts b es)
unfolding try_clauses
clauses-keep None cs ts b es h = rules-keep (record { function = false; args = ts }) cs b es h
clauses-keep (Some lists) cs ts b es h = fitting-keeps (list_any (λ modes. fits_modes (bindings b.state) modes ts) lists) ts cs b es h

call-good : (quiet : Bool) (c : Config) → IsGood c → GoesOnGood (call_step quiet c)
call-good true c h = h
call-good false c h = h

predicate-good : (o : Option PredTree) (all : EvaluatedAll) (k : List Frame) (es : List Entry) → IsBalanced 0 es → GoesOnGood (predicate_step o all k es)
predicate-good None all k es h = record { balanced = h }
predicate-good (Some pred) all k es h = call-good pred.quiet _ (record { balanced = clauses-keep pred.index pred.clauses all.trees _ _ h })

label-good : (c : NameCall) (w : ValueWord) (s : State) (r : Rest) (o : Option Pending) → IsBalanced 0 r.stack → Keeps (label_step c w s r o)
unfolding IsBalanced
label-good c w s r None h = h
label-good c w s r (Some p) h = h

labels-good : (objective : Option Objective) (o : Options) (items : List Item) (c : NameCall) (r : Rest) → IsBalanced 0 r.stack → Keeps (labels_step objective o items c r)
unfolding IsBalanced
labels-good (Some objective) o items c r h = h
labels-good None o items c r h =
    let s : State = confined c.all.state items in label-good c o.value s r (picked (pending s items) o.variable) h

solve-good : (a : Option Asked) (c : NameCall) (r : Rest) → IsBalanced 0 r.stack → Keeps (solve_step a c r)
solve-good None c r h = h
solve-good (Some (raises ball)) c r h = h
solve-good (Some (labels o items)) c r h = labels-good o.objective o items c r h

later-good : (later : Bool) (preds : List PredTree) (name : List ℕ) (args : List Tree) (all : EvaluatedAll) (gs : GoalTrees) (k : List Frame) (es : List Entry) → IsBalanced 0 es →
    GoesOnGood (later_step later preds (name_call name args all) (with_rest gs k es))
later-good true preds name args all gs k es h = record { balanced = solve-good (solve_asked name all.trees all.state) (name_call name args all) (with_rest gs k es) h }
later-good false preds name args all gs k es h = predicate-good (find_pred false name (tree_count all.trees) preds) all (behind gs k) es h

effect-good : (v : View) (o : Option Effect) (preds : List PredTree) (name : List ℕ) (args : List Tree) (all : EvaluatedAll) (gs : GoalTrees) (k : List Frame) (es : List Entry) → IsBalanced 0 es →
    GoesOnGood (effect_step v o preds (name_call name args all) (with_rest gs k es))
effect-good v None preds name args all gs k es h = later-good (is_later_predicate name (tree_count all.trees)) preds name args all gs k es h
effect-good v (Some d) preds name args all gs k es h = record { balanced = h }

name-good : (called : Bool) (v : View) (preds : List PredTree) (name : List ℕ) (args : List Tree) (all : EvaluatedAll) (gs : GoalTrees) (k : List Frame) (es : List Entry) → IsBalanced 0 es →
    GoesOnGood (name_step called v preds (name_call name args all) (with_rest gs k es))
name-good true v preds name args all gs k es h = record { balanced = h }
name-good false v preds name args all gs k es h = effect-good v (predicate_effect name all.trees all.state) preds name args all gs k es h

function-good : (o : Option PredTree) (all : EvaluatedAll) (into : ℕ) (k : List Frame) (es : List Entry) → IsBalanced 0 es → GoesOnGood (function_step o all into k es)
unfolding IsBalanced
function-good None all into k es h = record { balanced = h }
function-good (Some pred) all into k es h = call-good pred.quiet _ (record { balanced = rules-keep _ _ _ _ h })

later-value-good : (later : Bool) (preds : List PredTree) (name : List ℕ) (args : List Tree) (all : EvaluatedAll) (into : ℕ) (k : List Frame) (es : List Entry) → IsBalanced 0 es →
    GoesOnGood (later_value later preds (name_call name args all) into k es)
later-value-good true preds name args all into k es h = record { balanced = h }
later-value-good false preds name args all into k es h = function-good (find_pred true name (tree_count all.trees) preds) all into k es h

other-value-good : (resource : Bool) (v : View) (preds : List PredTree) (name : List ℕ) (args : List Tree) (all : EvaluatedAll) (into : ℕ) (gs : GoalTrees) (k : List Frame) (es : List Entry) → IsBalanced 0 es →
    GoesOnGood (other_value resource v preds (name_call name args all) into (with_rest gs k es))
other-value-good true v preds name args all into gs k es h = record { balanced = h }
other-value-good false v preds name args all into gs k es h = later-value-good (is_later_function name (tree_count all.trees)) preds name args all into (behind gs k) es h

value-good : (v : View) (o : Option FunctionEffect) (preds : List PredTree) (name : List ℕ) (args : List Tree) (all : EvaluatedAll) (into : ℕ) (gs : GoalTrees) (k : List Frame) (es : List Entry) → IsBalanced 0 es →
    GoesOnGood (value_step v o preds (name_call name args all) into (with_rest gs k es))
value-good v None preds name args all into gs k es h = other-value-good (is_resource name (tree_count all.trees)) v preds name args all into gs k es h
value-good v (Some d) preds name args all into gs k es h = record { balanced = h }

goal-good : (v : View) (preds : List PredTree) (g : GoalTree) (gs : GoalTrees) (e : Places) (s : State) (k : List Frame) (es : List Entry) → IsBalanced 0 es →
    GoesOnGood (goal_step v preds g e s (with_rest gs k es))
unfolding goal_step IsBalanced
goal-good v preds truth gs e s k es h = record { balanced = h }
goal-good v preds fail gs e s k es h = record { balanced = h }
goal-good v preds tick gs e s k es h = record { balanced = h }
goal-good v preds (call name args) gs e s k es h =
    let all : EvaluatedAll = evaluated_all (trees_of args) e s in name-good (is_call name (tree_count all.trees)) v preds name args all gs k es h
goal-good v preds (apply name args into) gs e s k es h =
    let all : EvaluatedAll = evaluated_all (trees_of args) e s in value-good v (value_effect name all.trees all.state) preds name args all into gs k es h
goal-good v preds (seq hs) gs e s k es h = record { balanced = h }
goal-good v preds (alternatives hs) gs e s k es h = record { balanced = branch-keeps hs (back_to e s (behind gs k)) es h }
goal-good v preds (if_else test g other) gs e s k es h = record { balanced = h }
goal-good v preds (not g) gs e s k es h = record { balanced = h }
goal-good v preds (once g) gs e s k es h = record { balanced = h }
goal-good v preds (collect g slot into) gs e s k es h = record { balanced = h }
goal-good v preds (count g into) gs e s k es h = record { balanced = h }
goal-good v preds (catch g ball handler) gs e s k es h = record { balanced = h }

frame-keeps : (f : Frame) (e : Places) (s : State) (k : List Frame) (es : List Entry) → IsBalanced 0 es → Keeps (frame_step f e s k es)
unfolding frame_step
frame-keeps (more gs) e s k es h = h
frame-keeps (return f) e s k es h = h
frame-keeps (give None) e s k es h = h
frame-keeps (give (Some t)) e s k es h = h

-- ---- searches

round-good : (a : Option Asked) (c : NameCall) (r : Rest) → IsBalanced 0 r.stack → Keeps (round_step a c r)
round-good None c r h = h
round-good (Some (raises ball)) c r h = h
round-good (Some (labels o items)) c r h = labels-good None o items c r h

next-keeps : (n : ℕ) (x : Search) (q : State) (v : ℤ) (b : Back) (es : List Entry) → IsBalanced 0 es → Keeps (next_round n x q v b es)
unfolding next_round IsBalanced
next-keeps zero x q v b es h = h
next-keeps (suc n) x q v b es h = h

weighed-keeps : (x : Search) (f : Option Found) (q : State) (w : Option ℤ) (b : Back) (es : List Entry) → IsBalanced 0 es → Keeps (weighed_step x f q w b es)
weighed-keeps x f q None b es h = h
weighed-keeps x f q (Some v) b es h = next-keeps (rounds_after x.objective f v) x q v b es h

searched-keeps : (f : Option Found) (b : Back) (es : List Entry) → IsBalanced 0 es → Keeps (searched f b es)
searched-keeps None b es h = h
searched-keeps (Some f) b es h = h

strict-keeps : (level : Strict) (e : Places) (s : State) (above : List Entry) (b : Back) (below : List Entry) → IsClosed 0 above → IsBalanced 0 below →
    Keeps (strict_step level e s above b below)
unfolding strict_step IsBalanced
strict-keeps once_level e s above b below c h = h
strict-keeps not_level e s above b below c h = h
strict-keeps (if_level g other) e s above b below c h = h
strict-keeps (guard_level called d cs) e s above b below c h = later-keep (leaves_others called.function d) called cs b below h
strict-keeps (value_level called into) e s above b below c h = h
strict-keeps (list_level slot into got) e s above b below c h = rest-closed 0 above (strict (list_level slot into _) b ∷ below) c h
strict-keeps (number_level into n) e s above b below c h = rest-closed 0 above (strict (number_level into (suc n)) b ∷ below) c h
strict-keeps (search_level x false f) e s above b below c h =
    round-good (solve_asked (codes "solve") (search_args x) s) (round_call x s) (with_rest no_goals [] (strict (search_level x true f) b ∷ below)) h
strict-keeps (search_level x true f) e s above b below c h = weighed-keeps x f s (worth_in x s) b below h

leave-keeps : (above : List Entry) (ball : Tree) (handler : GoalTree) (b : Back) (below : List Entry) → IsClosed 0 above → IsBalanced 0 below →
    IsBalanced 0 (leave above ball handler b below)
unfolding IsBalanced
leave-keeps [] ball handler b below c h = h
leave-keeps (x ∷ above) ball handler b below c h = rest-left 0 (x ∷ above) c ball handler b below h

told-good : (fit : Bool) (x : Solution) (es : List Entry) → IsBalanced 0 es → GoesOnGood (told_step fit x es)
unfolding IsBalanced
told-good true x es h = record { balanced = h }
told-good false x es h = record { balanced = tt }

answer-good : (names : List NameSlot) (e : Places) (s : State) (es : List Entry) → IsBalanced 0 es → (o : Open) → IsFound 0 es o → GoesOnGood (answer_step names e s es o)
unfolding answer_step IsFound IsBalanced
answer-good names e s es h none_open f = told-good (fits names (record { slots = e; state = s })) (record { slots = e; state = s }) es h
answer-good names e s es h (strict_open above level b below) f =
    record { balanced = strict-keeps level e s above b below (f.1 h) (closed-rest 0 above (strict level b ∷ below) (f.1 h) (subst (IsBalanced 0) f.0 h)) }
answer-good names e s es h (catch_open above ball handler b below) f =
    record { balanced = leave-keeps above ball handler b below (f.1 h) (closed-rest 0 above (catch_level ball handler b ∷ below) (f.1 h) (subst (IsBalanced 0) f.0 h)) }

end-keeps : (level : Strict) (b : Back) (es : List Entry) → IsBalanced 0 es → Keeps (end_step level b es)
unfolding end_step
end-keeps once_level b es h = h
end-keeps not_level b es h = h
end-keeps (if_level g other) b es h = h
end-keeps (guard_level called c cs) b es h = rules-keep called cs b es h
end-keeps (value_level called into) b es h = h
end-keeps (list_level slot into got) b es h = h
end-keeps (number_level into n) b es h = h
end-keeps (search_level x labelled f) b es h = searched-keeps f b es h

later-alternatives-keep : (name : List ℕ) (args : List Tree) (p : Pending) (alts : List Alternative) (b : Back) (es : List Entry) → IsBalanced 0 es →
    IsBalanced 0 (later_alternatives name args p alts b es)
unfolding IsBalanced
later-alternatives-keep name args p [] b es h = h
later-alternatives-keep name args p (a ∷ alts) b es h = h

alternatives-good : (name : List ℕ) (args : List Tree) (p : Pending) (alts : List Alternative) (b : Back) (es : List Entry) → IsBalanced 0 es → GoesOnGood (alternatives_step name args p alts b es)
alternatives-good name args p [] b es h = record { balanced = h }
alternatives-good name args p (a ∷ alts) b es h = record { balanced = later-alternatives-keep name args p alts b es h }

choice-good : (c : Choice) (b : Back) (es : List Entry) → IsBalanced 0 es → GoesOnGood (choice_step c b es)
choice-good (rules_left called cs) b es h = record { balanced = rules-keep called cs b es h }
choice-good (facts_left ts cs) b es h = record { balanced = facts-keep ts cs b es h }
choice-good (branches_left gs) b es h = record { balanced = branch-keeps gs b es h }
choice-good (alternatives_left name args p alts) b es h = alternatives-good name args p alts b es h

-- a mark of a `catch` that was left counts for nothing at the top
unmarked : (n : ℕ) (es : List Entry) → IsBalanced (suc n) es → IsBalanced n es
unfolding IsBalanced
unmarked n [] h = absurd h
unmarked n (choice c b ∷ es) h = unmarked n es h
unmarked n (strict s b ∷ es) h = absurd h
unmarked zero (catch_level ball handler b ∷ es) h = h
unmarked (suc n) (catch_level ball handler b ∷ es) h = unmarked n es h
unmarked n (left ∷ es) h = unmarked (suc n) es h

fail-good : (es : List Entry) → IsBalanced 0 es → GoesOnGood (fail_step es)
unfolding fail_step IsBalanced
fail-good [] h = tt
fail-good (choice c b ∷ es) h = choice-good c b es h
fail-good (strict level b ∷ es) h = record { balanced = end-keeps level b es h }
fail-good (catch_level ball handler b ∷ es) h = record { balanced = h }
fail-good (left ∷ es) h = record { balanced = unmarked 0 es h }

below-keeps : (es : List Entry) (o : Open) → IsMatched 0 es o → IsBalanced 0 (below_left o es)
unfolding IsMatched
below-keeps es none_open h = absurd h
below-keeps es (strict_open above level b below) h = absurd h
below-keeps es (catch_open above ball handler b below) h = h.2

raise-good : (raised : Tree) (es : List Entry) → IsBalanced 0 es → GoesOnGood (raise_step raised es)
unfolding raise_step IsBalanced
raise-good raised [] h = tt
raise-good raised (choice c b ∷ es) h = record { balanced = h }
raise-good raised (strict level b ∷ es) h = record { balanced = h }
raise-good raised (catch_level ball handler b ∷ es) h = record { balanced = h }
raise-good raised (left ∷ es) h = record { balanced = below-keeps es (newest_open zero es) (left-matched 0 es h) }

loaded-good : (n : ℕ) (c : Config) → IsGood c → GoesOnGood (loaded_step n c)
loaded-good zero c h = h
loaded-good (suc n) c h = h

now-good : (v : View) (preds : List PredTree) (names : List NameSlot) (now : Now) (es : List Entry) → IsBalanced 0 es → GoesOnGood (now_step v preds names now es)
now-good v preds names (going (goal g gs) e s k) es h = goal-good v preds g gs e s k es h
now-good v preds names (going no_goals e s []) es h = answer-good names e s es h (newest_open zero es) (newest-found zero es)
now-good v preds names (going no_goals e s (f ∷ k)) es h = record { balanced = frame-keeps f e s k es h }
now-good v preds names (settling before s gs e k) es h = loaded-good (settlement before s).load (config (left_now (settlement before s).left gs e k) es) (record { balanced = h })
now-good v preds names (telling text gs e s k) es h = record { balanced = h }
now-good v preds names failed es h = fail-good es h
now-good v preds names (raising raised) es h = raise-good raised es h

pub step-good : (v : View) (preds : List PredTree) (names : List NameSlot) (c : Config) → IsGood c → GoesOnGood (step v preds names c)
unfolding step
step-good v preds names c h = now-good v preds names c.now c.stack h.balanced
