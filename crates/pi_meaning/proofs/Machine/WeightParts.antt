-- What parts of steps weigh: what is tried, what built-ins come to, and frames.
use Rattle.std.proofs.Common.{◌≡◌, ℕ, suc, ◌+◌, ◌≤◌, ◌<◌, List, [], ◌∷◌, refl, arith}
use Rattle.std.specs.Prelude.{Bool, true, false, Option, Some, None, is_some, cond, replicate}
use Rattle.std.specs.List.{list_any}
use Rattle.pi_terms.specs.Tree.{Trees}
use Rattle.pi_terms.specs.Places.{Places}
use Rattle.pi_constraints.specs.State.{State, bindings}
use Rattle.pi_core.specs.GoalTree.{GoalTree, truth, GoalTrees, no_goals, goal}
use Rattle.pi_core.specs.CoreTree.{ClauseTree, leaves_others}
use Rattle.pi_meaning.specs.Shared.View.{View}
use Rattle.pi_meaning.specs.Shared.Within.{is_body}
use Rattle.pi_meaning.specs.CoreMeaning.Facts.{fits_modes}
use Rattle.pi_constraints.specs.HeadMatch.{matched_all_in}
use Rattle.pi_syntax.specs.declared.program.Mode.{Mode}
use Rattle.pi_effects.specs.Effect.{Effect, Succeeds, Fails, Writes, Raises, FunctionEffect, Gives, Refuses}
use Rattle.pi_meaning.specs.Machine.Configuration.{Frame, more, return, give, Back, Called, Entry, going, failed, Config, config}
use Rattle.pi_meaning.specs.Machine.Step.{branch, taken, guarding, tried, try_rules, with_fact, from_unifying, later_facts, fact_tried, try_facts, try_clauses, later_rules, frame_step, written_now, done_now, given_now, trial}
use Rattle.pi_meaning.specs.Machine.Weight.{CallWeights, goal_weight, goals_weight, branches_weight, going_weight, frames_weight, body_behind, rules_weight, facts_weight, strict_answer_weight, answer_weight, choice_weight, strict_weight, stack_weight, now_weight, weight_by, clauses_weight}
use Rattle.pi_meaning.proofs.Machine.WeightLemmas.{after-weight}

-- a configuration weighs less than so much
abbrev pub Lighter : CallWeights → Config → ℕ → Type 0
Lighter calls c w = weight_by calls c < w

-- ---- goals

pub branch-lighter : (calls : CallWeights) (gs : GoalTrees) (b : Back) (es : List Entry) → Lighter calls (branch gs b es) (suc (branches_weight calls gs (frames_weight calls b.frames (answer_weight calls 0 es))) + stack_weight calls es)
unfolding weight_by now_weight stack_weight answer_weight branches_weight goals_weight choice_weight
branch-lighter calls no_goals b es = omega arith
branch-lighter calls (goal g no_goals) b es = omega arith
branch-lighter calls (goal g (goal h hs)) b es = omega arith

pub written-lighter : (calls : CallWeights) (inside : Bool) (text : List ℕ) (gs : GoalTrees) (e : Places) (s : State) (k : List Frame) (a : ℕ) →
    now_weight calls (written_now inside text gs e s k) a ≤ suc (going_weight calls gs (frames_weight calls k a))
unfolding now_weight
written-lighter calls true text gs e s k a = omega arith
written-lighter calls false text gs e s k a = omega arith

pub done-lighter : (calls : CallWeights) (v : View) (before : State) (d : Effect) (gs : GoalTrees) (e : Places) (k : List Frame) (a : ℕ) → now_weight calls (done_now v before d gs e k) a ≤ suc (going_weight calls gs (frames_weight calls k a))
unfolding now_weight
done-lighter calls v before (Succeeds s) gs e k a = omega arith
done-lighter calls v before Fails gs e k a = omega arith
done-lighter calls v before (Writes text s) gs e k a = written-lighter calls (is_body v.within) text gs e s k a
done-lighter calls v before (Raises ball) gs e k a = omega arith

pub given-lighter : (calls : CallWeights) (d : FunctionEffect) (into : ℕ) (gs : GoalTrees) (e : Places) (k : List Frame) (a : ℕ) → now_weight calls (given_now d into gs e k) a ≤ suc (going_weight calls gs (frames_weight calls k a))
unfolding now_weight
given-lighter calls (Gives t s) into gs e k a = omega arith
given-lighter calls (Refuses ball) into gs e k a = omega arith

-- ---- rules and frames

later-answer : (calls : CallWeights) (back : Bool) (called : Called) (cs : List ClauseTree) (b : Back) (es : List Entry) → answer_weight calls 0 (later_rules back called cs b es) ≡ answer_weight calls 0 es
unfolding answer_weight
later-answer calls false called cs b es = refl
later-answer calls true called [] b es = refl
later-answer calls true called (c ∷ cs) b es = refl

later-weight : (calls : CallWeights) (back : Bool) (called : Called) (cs : List ClauseTree) (b : Back) (es : List Entry) →
    stack_weight calls (later_rules back called cs b es)
    ≤ suc (rules_weight calls cs (body_behind called.function (frames_weight calls b.frames (answer_weight calls 0 es)) (answer_weight calls 0 es))) + stack_weight calls es
unfolding stack_weight choice_weight
later-weight calls false called cs b es = omega arith
later-weight calls true called [] b es = omega arith
later-weight calls true called (c ∷ cs) b es = omega arith

pub taken-lighter : (calls : CallWeights) (called : Called) (c : ClauseTree) (cs : List ClauseTree) (b : Back) (es : List Entry) (e : Places) (s : State) →
    let w : ℕ = body_behind called.function (frames_weight calls b.frames (answer_weight calls 0 es)) (answer_weight calls 0 es) in
    weight_by calls (taken (trial called c cs b es) e s) ≤ goal_weight calls c.body w + (suc (rules_weight calls cs w) + stack_weight calls es)
unfolding weight_by now_weight goals_weight
taken-lighter calls called c cs b es e s =
    let k : _ = later-weight calls (leaves_others called.function c) called cs b es in
    rw (after-weight calls called.function c b.frames (answer_weight calls 0 (later_rules (leaves_others called.function c) called cs b es)), later-answer calls (leaves_others called.function c) called cs b es) (omega arith)

guarding-lighter : (calls : CallWeights) (g : GoalTree) (called : Called) (c : ClauseTree) (cs : List ClauseTree) (b : Back) (es : List Entry) (e : Places) →
    let w : ℕ = body_behind called.function (frames_weight calls b.frames (answer_weight calls 0 es)) (answer_weight calls 0 es) in
    weight_by calls (guarding g (trial called c cs b es) e) ≤ goal_weight calls g (suc (goal_weight calls c.body w)) + suc (rules_weight calls cs w) + stack_weight calls es
unfolding weight_by now_weight stack_weight answer_weight frames_weight strict_answer_weight strict_weight goals_weight goal_weight
guarding-lighter calls truth called c cs b es e = let k : _ = taken-lighter calls called c cs b es e b.state in omega arith
guarding-lighter calls g called c cs b es e = omega arith

tried-lighter : (calls : CallWeights) (called : Called) (c : ClauseTree) (cs : List ClauseTree) (b : Back) (es : List Entry) (e : Option Places) (otherwise : Config) →
    let w : ℕ = body_behind called.function (frames_weight calls b.frames (answer_weight calls 0 es)) (answer_weight calls 0 es) in
    weight_by calls otherwise ≤ rules_weight calls cs w + stack_weight calls es → weight_by calls (tried (trial called c cs b es) e otherwise) ≤ rules_weight calls (c ∷ cs) w + stack_weight calls es
unfolding rules_weight
tried-lighter calls called c cs b es None otherwise h = omega arith
tried-lighter calls called c cs b es (Some e) otherwise h = guarding-lighter calls c.guard called c cs b es e

pub rules-lighter : (calls : CallWeights) (called : Called) (cs : List ClauseTree) (b : Back) (es : List Entry) →
    weight_by calls (try_rules called cs b es) ≤ rules_weight calls cs (body_behind called.function (frames_weight calls b.frames (answer_weight calls 0 es)) (answer_weight calls 0 es)) + stack_weight calls es
unfolding try_rules weight_by now_weight rules_weight
rules-lighter calls called [] b es = omega arith
rules-lighter calls called (c ∷ cs) b es =
    tried-lighter calls called c cs b es (matched_all_in (bindings b.state) c.head called.args (replicate c.slots None)) (try_rules called cs b es) (rules-lighter calls called cs b es)

later-facts-answer : (calls : CallWeights) (ts : Trees) (cs : List ClauseTree) (b : Back) (es : List Entry) → answer_weight calls 0 (later_facts ts cs b es) ≡ answer_weight calls 0 es
unfolding answer_weight
later-facts-answer calls ts [] b es = refl
later-facts-answer calls ts (c ∷ cs) b es = refl

later-facts-weight : (calls : CallWeights) (ts : Trees) (cs : List ClauseTree) (b : Back) (es : List Entry) →
    stack_weight calls (later_facts ts cs b es) ≤ suc (facts_weight cs (frames_weight calls b.frames (answer_weight calls 0 es))) + stack_weight calls es
unfolding stack_weight choice_weight
later-facts-weight calls ts [] b es = omega arith
later-facts-weight calls ts (c ∷ cs) b es = omega arith

fewer-weigh : (found : Bool) (c : ClauseTree) (cs ds : List ClauseTree) (w : ℕ) → facts_weight ds w ≤ facts_weight cs w → facts_weight (cond found (c ∷ cs) ds) w ≤ facts_weight (c ∷ cs) w
unfolding facts_weight
fewer-weigh true c cs ds w h = omega arith
fewer-weigh false c cs ds w h = omega arith

unifying-weigh : (ts : Trees) (s : State) (cs : List ClauseTree) (w : ℕ) → facts_weight (from_unifying ts s cs) w ≤ facts_weight cs w
unfolding from_unifying
unifying-weigh ts s [] w = omega arith
unifying-weigh ts s (c ∷ cs) w = fewer-weigh (is_some (with_fact ts s c)) c cs (from_unifying ts s cs) w (unifying-weigh ts s cs w)

fact-lighter : (calls : CallWeights) (ts : Trees) (c : ClauseTree) (cs : List ClauseTree) (b : Back) (es : List Entry) (o : Option State) (otherwise : Config) →
    let w : ℕ = frames_weight calls b.frames (answer_weight calls 0 es) in
    weight_by calls otherwise ≤ facts_weight cs w + stack_weight calls es → weight_by calls (fact_tried ts cs b es o otherwise) ≤ facts_weight (c ∷ cs) w + stack_weight calls es
unfolding facts_weight weight_by now_weight
fact-lighter calls ts c cs b es None otherwise h = omega arith
fact-lighter calls ts c cs b es (Some r) otherwise h =
    let k : _ = later-facts-weight calls ts (from_unifying ts b.state cs) b es in
    let m : _ = unifying-weigh ts b.state cs (frames_weight calls b.frames (answer_weight calls 0 es)) in
    rw (later-facts-answer calls ts (from_unifying ts b.state cs) b es) (omega arith)

pub facts-lighter : (calls : CallWeights) (ts : Trees) (cs : List ClauseTree) (b : Back) (es : List Entry) →
    weight_by calls (try_facts ts cs b es) ≤ facts_weight cs (frames_weight calls b.frames (answer_weight calls 0 es)) + stack_weight calls es
unfolding try_facts weight_by now_weight facts_weight
facts-lighter calls ts [] b es = omega arith
facts-lighter calls ts (c ∷ cs) b es = fact-lighter calls ts c cs b es (with_fact ts b.state c) (try_facts ts cs b es) (facts-lighter calls ts cs b es)

pub frame-lighter : (calls : CallWeights) (f : Frame) (e : Places) (s : State) (k : List Frame) (es : List Entry) → Lighter calls (frame_step f e s k es) (weight_by calls (config (going no_goals e s (f ∷ k)) es))
unfolding frame_step weight_by now_weight frames_weight
frame-lighter calls (more gs) e s k es = omega arith
frame-lighter calls (return f) e s k es = omega arith
frame-lighter calls (give None) e s k es = omega arith
frame-lighter calls (give (Some t)) e s k es = omega arith

fits-lighter : (calls : CallWeights) (one : Bool) (cs : List ClauseTree) (ts : Trees) (b : Back) (es : List Entry) →
    weight_by calls (cond one (try_facts ts cs b es) (config failed es)) ≤ facts_weight cs (frames_weight calls b.frames (answer_weight calls 0 es)) + stack_weight calls es
unfolding weight_by now_weight
fits-lighter calls true cs ts b es = facts-lighter calls ts cs b es
fits-lighter calls false cs ts b es = omega arith

-- the clauses of a predicate
pub clauses-lighter : (calls : CallWeights) (lists : Option (List (List Mode))) (cs : List ClauseTree) (ts : Trees) (b : Back) (es : List Entry) →
    weight_by calls (try_clauses lists cs ts b es) ≤ clauses_weight calls lists cs (frames_weight calls b.frames (answer_weight calls 0 es)) + stack_weight calls es
unfolding try_clauses
clauses-lighter calls None cs ts b es = rules-lighter calls (record { function = false; args = ts }) cs b es
clauses-lighter calls (Some lists) cs ts b es = fits-lighter calls (list_any (λ modes. fits_modes (bindings b.state) modes ts) lists) cs ts b es
