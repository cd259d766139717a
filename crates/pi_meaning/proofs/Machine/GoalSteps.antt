-- Lemmas on steps: goals that count no Tick, and frames.
use Rattle.std.proofs.Common.{◌≡◌, ℕ, List, [], ◌∷◌, refl, ap, sym, ◌∙◌, arith}
use Rattle.std.proofs.Math.Path.{fun_ext}
use Rattle.std.specs.Prelude.{Bool, true, false, Option, Some, None, pos, replicate, slice_set}
use Rattle.pi_terms.specs.Tree.{Tree, int}
use Rattle.pi_terms.specs.Places.{Places}
use Rattle.pi_constraints.specs.State.{State, bindings}
use Rattle.pi_core.specs.GoalTree.{GoalTree, truth, GoalTrees, no_goals, goal}
use Rattle.pi_core.specs.CoreTree.{ClauseTree, PredTree, leaves_others}
use Rattle.pi_traces.specs.Trace.{Trace, note, Out, one, alt, then}
use Rattle.pi_traces.specs.Control.{chosen, counted}
use Rattle.pi_meaning.specs.Shared.View.{View}
use Rattle.pi_meaning.specs.CoreMeaning.Builtins.{Builtins}
use Rattle.pi_settling.specs.Settle.{answer_with}
use Rattle.pi_meaning.specs.Shared.Settle.{settled}
use Rattle.pi_constraints.specs.Evaluation.{Evaluated, evaluated}
use Rattle.pi_constraints.specs.HeadMatch.{matched_all_in}
use Rattle.pi_effects.specs.Effect.{Effect, Succeeds, Fails, Writes, Raises, FunctionEffect, Gives, Refuses}
use Rattle.pi_meaning.specs.Shared.Level.{Level, Point}
use Rattle.pi_meaning.specs.Shared.Within.{is_body}
use Rattle.pi_meaning.specs.Shared.Builtin.{written, settled_effect, function_trace}
use Rattle.pi_meaning.specs.CoreMeaning.Meaning.{Action, with_slot, draining, strictly, succeeding, collecting, counting, meaning, meaning_of_any}
use Rattle.pi_meaning.specs.CoreMeaning.Rules.{guarded, chosen_rule, rule_before, rules, value_at, rule_by}
use Rattle.pi_traces.proofs.TraceLemmas.{then-alt, then-assoc, alt-done}
use Rattle.pi_meaning.specs.Machine.Configuration.{Frame, more, return, give, Back, Called, Strict, guard_level, list_level, number_level, Entry, strict, catch_level, Config, config, behind, after_body}
use Rattle.pi_meaning.specs.Machine.Remaining.{point, valued, continued, run_from, start_of, body_of, rules_trace, choice_trace, level_trace, catch_trace, around, now_trace}
use Rattle.pi_meaning.specs.Machine.Step.{back_to, inside, branch, later_rules, taken, guarding, tried, try_rules, written_now, done_now, given_now, left_now, frame_step, trial}
use Rattle.pi_meaning.proofs.Machine.RuleForms.{rules-anywhere}
use Rattle.pi_meaning.proofs.Machine.RunLemmas.{CallsAre, draining-goes_on, behind-continued, goal-first, goal-alone, goal-strict, no-goal, remains}

-- a configuration's trace is this
abbrev pub Is : Builtins → Level → List Entry → Trace Point → Config → Type 0
Is given l es t c = around given l es t [] ≡ remains given l c.now c.stack

-- what the first goal does, and what is behind it
pub goal-does : (given : Builtins) (preds : List PredTree) (l : Level) → CallsAre given preds l → (g : GoalTree) (act : Action) → meaning given g ≡ draining act →
    (gs : GoalTrees) (e : Places) (s : State) (k : List Frame) → run_from given l (goal g gs) e s k ≡ then (act (point l e s)) (continued given l (behind gs k))
goal-does given preds l h g act m gs e s k =
    goal-first given l g gs e s k
    ∙ ap (λ t. then t (continued given l (behind gs k))) (ap (λ f. f (point l e s)) m ∙ draining-goes_on given preds l h act e s)

-- one answer goes on
pub one-goes_on : (f : Action) (p : Point) → then (one p) f ≡ f p
unfolding then
one-goes_on f p = alt-done (f p)

-- with no frame left there is one answer
pub answer-is : (given : Builtins) (preds : List PredTree) (l : Level) → CallsAre given preds l → (e : Places) (s : State) → run_from given l no_goals e s [] ≡ one (point l e s)
unfolding continued
answer-is given preds l h e s = no-goal given l e s [] ∙ draining-goes_on given preds l h (λ q. one q) e s

-- ---- sequences and alternatives

pub truth-goes_on : (given : Builtins) (l : Level) (gs : GoalTrees) (e : Places) (s : State) (k : List Frame) →
    then (succeeding (point l e s)) (continued given l (behind gs k)) ≡ run_from given l gs e s k
truth-goes_on given l gs e s k = one-goes_on (continued given l (behind gs k)) (point l e s) ∙ sym (behind-continued given l gs k (point l e s))

pub branch-is : (given : Builtins) (l : Level) (gs : GoalTrees) (b : Back) (es : List Entry) →
    Is given l es (then (meaning_of_any given gs (start_of l b)) (continued given l b.frames)) (branch gs b es)
unfolding now_trace meaning_of_any then around choice_trace
branch-is given l no_goals b es = refl
branch-is given l (goal g no_goals) b es =
    ap (λ t. around given l es t [])
    (ap (λ t. then t (continued given l b.frames)) (alt-done (meaning given g (start_of l b))) ∙ sym (goal-alone given l g b.slots b.state b.frames))
branch-is given l (goal g (goal h hs)) b es =
    ap (λ t. around given l es t [])
    (then-alt (meaning given g (start_of l b)) (meaning_of_any given (goal h hs) (start_of l b)) (continued given l b.frames)
    ∙ ap (λ t. alt t (then (meaning_of_any given (goal h hs) (start_of l b)) (continued given l b.frames))) (sym (goal-alone given l g b.slots b.state b.frames)))

-- ---- levels

pub level-begins : (given : Builtins) (l : Level) (level : Strict) (b : Back) (g : GoalTree) (e : Places) (s : State) (es : List Entry) →
    Is given l es (level_trace given l level b (strictly (meaning given g) (point l e s))) (inside g e s (strict level b) es)
unfolding around now_trace
level-begins given l level b g e s es = ap (λ t. around given l es (level_trace given l level b t) []) (sym (goal-strict given l g e s))

pub catch-begins : (given : Builtins) (l : Level) (ball : Tree) (handler : GoalTree) (b : Back) (g : GoalTree) (e : Places) (s : State) (es : List Entry) →
    Is given l es (catch_trace given l ball handler b (strictly (meaning given g) (point l e s))) (inside g e s (catch_level ball handler b) es)
unfolding around now_trace alt
catch-begins given l ball handler b g e s es = ap (λ t. around given l es (catch_trace given l ball handler b t) []) (sym (goal-strict given l g e s))

-- collecting and counting begin with nothing
pub list-begins : (given : Builtins) (l : Level) (g : GoalTree) (slot into : ℕ) (e : Places) (s : State) (k : List Frame) →
    then (collecting (meaning given g) slot into (point l e s)) (continued given l k)
    ≡ level_trace given l (list_level slot into []) (back_to e s k) (strictly (meaning given g) (point l e s))
unfolding level_trace collecting
list-begins given l g slot into e s k = refl

pub number-begins : (given : Builtins) (l : Level) (g : GoalTree) (into : ℕ) (e : Places) (s : State) (k : List Frame) →
    then (counting (meaning given g) into (point l e s)) (continued given l k)
    ≡ level_trace given l (number_level into 0) (back_to e s k) (strictly (meaning given g) (point l e s))
unfolding level_trace counting
number-begins given l g into e s k =
    ap (λ f. then (counted (strictly (meaning given g) (point l e s)) f) (continued given l k))
    (fun_ext (λ n. ap (λ m. one (with_slot (point l e s) into (int (pos m)))) (omega arith)))

-- ---- rules

pub later-rules-wait : (given : Builtins) (l : Level) (back : Bool) (called : Called) (cs : List ClauseTree) (b : Back) (es : List Entry) (t : Trace Point) →
    around given l es (chosen_rule back t (rules_trace given l called cs b)) [] ≡ around given l (later_rules back called cs b es) t []
unfolding around choice_trace rules_trace rules
later-rules-wait given l false called cs b es t = refl
later-rules-wait given l true called [] b es t = ap (λ u. around given l es u []) (alt-done t)
later-rules-wait given l true called (c ∷ cs) b es t = refl

-- a rule that applies
pub rule-taken : (given : Builtins) (l : Level) (called : Called) (c : ClauseTree) (cs : List ClauseTree) (b : Back) (es : List Entry) (e : Places) (s : State) →
    Is given l es (chosen_rule (leaves_others called.function c) (body_of given l called b c (point l e s)) (rules_trace given l called cs b)) (taken (trial called c cs b es) e s)
unfolding now_trace
rule-taken given l called c cs b es e s =
    later-rules-wait given l (leaves_others called.function c) called cs b es (body_of given l called b c (point l e s))
    ∙ ap (λ u. around given l (later_rules (leaves_others called.function c) called cs b es) u []) (sym (goal-alone given l c.body e s (after_body called.function c b.frames)))

-- what a condition decides
abbrev decided : Builtins → Level → GoalTree → Called → ClauseTree → List ClauseTree → Back → Places → Trace Point
decided given l g called c cs b e =
    chosen (guarded given g (point l e b.state)) (λ p. chosen_rule (leaves_others called.function c) (body_of given l called b c p) (rules_trace given l called cs b)) (rules_trace given l called cs b)

guard-begins : (given : Builtins) (l : Level) (g : GoalTree) (called : Called) (c : ClauseTree) (cs : List ClauseTree) (b : Back) (es : List Entry) (e : Places) →
    Is given l es (level_trace given l (guard_level called c cs) b (strictly (meaning given g) (point l e b.state))) (inside g e b.state (strict (guard_level called c cs) b) es)
guard-begins given l g called c cs b es e = level-begins given l (guard_level called c cs) b g e b.state es

guarding-is : (given : Builtins) (l : Level) (g : GoalTree) (called : Called) (c : ClauseTree) (cs : List ClauseTree) (b : Back) (es : List Entry) (e : Places) →
    Is given l es (decided given l g called c cs b e) (guarding g (trial called c cs b es) e)
unfolding chosen level_trace
guarding-is given l truth called c cs b es e = rule-taken given l called c cs b es e b.state
guarding-is given l g called c cs b es e = guard-begins given l g called c cs b es e

rule-tried : (given : Builtins) (l : Level) (called : Called) (c : ClauseTree) (cs : List ClauseTree) (b : Back) (es : List Entry) (e : Option Places) →
    Is given l es (rules_trace given l called cs b) (try_rules called cs b es) →
    Is given l es (rule_before given l (rule_by c (leaves_others called.function c) (body_of given l called b c)) b.state (rules_trace given l called cs b) e) (tried (trial called c cs b es) e (try_rules called cs b es))
rule-tried given l called c cs b es None r = r
rule-tried given l called c cs b es (Some e) r = guarding-is given l c.guard called c cs b es e

pub rules-tried : (given : Builtins) (l : Level) (called : Called) (cs : List ClauseTree) (b : Back) (es : List Entry) → Is given l es (rules_trace given l called cs b) (try_rules called cs b es)
unfolding rules_trace rules try_rules now_trace
rules-tried given l called [] b es = refl
rules-tried given l called (c ∷ cs) b es =
    ap (λ t. around given l es (rule_before given l (rule_by c (leaves_others called.function c) (body_of given l called b c)) b.state t (matched_all_in (bindings b.state) c.head called.args (replicate c.slots None))) [])
    (rules-anywhere given l (λ d. leaves_others called.function d) (λ d p. body_of given l called b d p) 1 0 cs called.args b.state)
    ∙ rule-tried given l called c cs b es (matched_all_in (bindings b.state) c.head called.args (replicate c.slots None)) (rules-tried given l called cs b es)

-- ---- built-ins

-- what is written is told before what is behind it; in the body of a planner call it is raised
written-goes_on : (given : Builtins) (l : Level) (inside : Bool) (text : List ℕ) (gs : GoalTrees) (e : Places) (s : State) (k : List Frame) (es : List Entry) →
    Is given l es (then (then (written inside text s) (λ x. one (point l e x))) (continued given l (behind gs k))) (config (written_now inside text gs e s k) es)
unfolding then alt now_trace
written-goes_on given l true text gs e s k es = refl
written-goes_on given l false text gs e s k es = ap (λ t. around given l es (note (Out text) t) []) (truth-goes_on given l gs e s k)

-- a state that is settled before goals go on
pub settled-goes_on : (given : Builtins) (l : Level) (before s : State) (gs : GoalTrees) (slots : Places) (k : List Frame) →
    then (then (settled before s) (λ x. one (point l slots x))) (continued given l (behind gs k)) ≡ then (settled before s) (λ x. run_from given l gs slots x k)
settled-goes_on given l before s gs slots k =
    then-assoc (settled before s) (λ x. one (point l slots x)) (continued given l (behind gs k)) ∙ ap (then (settled before s)) (fun_ext (λ x. truth-goes_on given l gs slots x k))

-- an effect goes on with its answer
pub effect-goes_on : (given : Builtins) (v : View) (l : Level) (r : State) (e : Effect) (gs : GoalTrees) (slots : Places) (k : List Frame) (es : List Entry) →
    Is given l es (then (then (settled_effect v r e) (λ x. one (point l slots x))) (continued given l (behind gs k))) (config (done_now v r e gs slots k) es)
unfolding then now_trace
effect-goes_on given v l r (Succeeds s) gs slots k es = ap (λ t. around given l es t []) (settled-goes_on given l r s gs slots k)
effect-goes_on given v l r Fails gs slots k es = refl
effect-goes_on given v l r (Writes text s) gs slots k es = written-goes_on given l (is_body v.within) text gs slots s k es
effect-goes_on given v l r (Raises ball) gs slots k es = refl

-- and a function's with its value in a slot
pub given-goes_on : (given : Builtins) (l : Level) (e : FunctionEffect) (into : ℕ) (gs : GoalTrees) (slots : Places) (k : List Frame) (es : List Entry) →
    Is given l es (then (then (function_trace e) (λ a. one (point l (slice_set slots into (Some a.value)) a.state))) (continued given l (behind gs k))) (config (given_now e into gs slots k) es)
unfolding then alt now_trace
given-goes_on given l (Gives t s) into gs slots k es = ap (λ u. around given l es u []) (truth-goes_on given l gs (slice_set slots into (Some t)) s k)
given-goes_on given l (Refuses ball) into gs slots k es = refl

-- ---- settling

-- what is left goes on, after its load
pub left-goes_on : (given : Builtins) (l : Level) (o : Option State) (gs : GoalTrees) (e : Places) (k : List Frame) →
    then (answer_with o) (λ r. run_from given l gs e r k) ≡ now_trace given l (left_now o gs e k)
unfolding now_trace then
left-goes_on given l None gs e k = refl
left-goes_on given l (Some r) gs e k = alt-done (run_from given l gs e r k)

-- ---- frames

pub frame-steps : (given : Builtins) (preds : List PredTree) (l : Level) → CallsAre given preds l → (f : Frame) (e : Places) (s : State) (k : List Frame) (es : List Entry) →
    Is given l es (run_from given l no_goals e s (f ∷ k)) (frame_step f e s k es)
unfolding frame_step now_trace continued then alt
frame-steps given preds l h (more gs) e s k es = ap (λ t. around given l es t []) (no-goal given l e s (more gs ∷ k))
frame-steps given preds l h (return f) e s k es =
    ap (λ t. around given l es t []) (no-goal given l e s (return f ∷ k) ∙ sym (no-goal given l f s k))
frame-steps given preds l h (give None) e s k es =
    ap (λ t. around given l es t [])
    (no-goal given l e s (give None ∷ k)
    ∙ ap (λ t. then t (λ q. then (value_at None q) (λ a. one (valued l a)))) (draining-goes_on given preds l h (λ q. one q) e s))
frame-steps given preds l h (give (Some t)) e s k es =
    let r : Evaluated = evaluated t e s in
    ap (λ t. around given l es t [])
    (no-goal given l e s (give (Some t) ∷ k)
    ∙ ap (λ u. then u (λ q. then (value_at (Some t) q) (λ a. one (valued l a)))) (draining-goes_on given preds l h (λ q. one q) e s)
    ∙ sym (answer-is given preds l h (Some r.tree ∷ []) r.state))
