-- Lemmas on steps: a goal that has no further answer, and exceptions.
use Rattle.std.proofs.Common.{◌≡◌, ℕ, zero, suc, List, [], ◌∷◌, ◌++◌, refl, ap, sym, ◌∙◌, arith}
use Rattle.std.proofs.Math.Path.{fun_ext}
use Rattle.std.specs.Prelude.{true, false, Option, Some, None, codes, pos, slice_set}
use Rattle.pi_terms.specs.Tree.{Tree, Trees, int}
use Rattle.pi_terms.specs.Copy.{copy, new_variables}
use Rattle.pi_constraints.specs.State.{State, next}
use Rattle.pi_constraints.specs.Unify.{unified}
use Rattle.pi_core.specs.GoalTree.{GoalTree, GoalTrees, no_goals}
use Rattle.pi_core.specs.CoreTree.{ClauseTree}
use Rattle.pi_settling.specs.Choices.{Pending}
use Rattle.pi_traces.specs.Trace.{end, Raise, done, one, alt, then, first}
use Rattle.pi_traces.specs.Control.{negated, chosen, collected, counted, caught}
use Rattle.pi_meaning.specs.CoreMeaning.Builtins.{Builtins}
use Rattle.pi_meaning.specs.Shared.Settle.{settled}
use Rattle.pi_constraints.specs.Evaluation.{with_new_variables}
use Rattle.pi_effects.specs.Exception.{exception_with}
use Rattle.pi_meaning.specs.Shared.Raise.{raised_with}
use Rattle.pi_meaning.specs.Shared.Level.{Level, Point}
use Rattle.pi_meaning.specs.CoreMeaning.Meaning.{with_slot, with_list, meaning}
use Rattle.pi_meaning.specs.Shared.Handling.{handled_in}
use Rattle.pi_terms.specs.ListCopies.{list_of_copies, new_in_all}
use Rattle.pi_traces.proofs.TraceLemmas.{then-assoc, alt-done}
use Rattle.pi_meaning.specs.Machine.Configuration.{Back, Called, Choice, rules_left, facts_left, branches_left, alternatives_left, Strict, once_level, not_level, if_level, guard_level, value_level, list_level, number_level, search_level, Entry, choice, strict, catch_level, left, failed, raising, config}
use Rattle.pi_meaning.specs.Machine.Remaining.{point, continued, run_from, start_of, alternatives_trace, choice_trace, level_trace, catch_trace, around, now_trace}
use Rattle.pi_meaning.specs.Machine.Step.{unresolved, branch, try_rules, try_facts, end_step, handler_step, Open, none_open, strict_open, catch_open, beneath, newest_open, below_left}
use Rattle.pi_meaning.specs.Machine.Shape.{IsBalanced}
use Rattle.pi_meaning.proofs.Machine.StackLemmas.{IsClosed, Reach, reach, exit-passes}
use Rattle.pi_meaning.proofs.Machine.RunLemmas.{goal-alone, no-goal}
use Rattle.pi_meaning.proofs.Machine.GoalSteps.{Is, branch-is, rules-tried}
use Rattle.pi_meaning.proofs.Machine.FactSteps.{facts-tried}
use Rattle.pi_meaning.proofs.Machine.AnswerSteps.{goes-on, append-none}

-- ---- no further answer

pub rules-end : (given : Builtins) (l : Level) (called : Called) (cs : List ClauseTree) (b : Back) (es : List Entry) → Is given l (choice (rules_left called cs) b ∷ es) done (try_rules called cs b es)
unfolding around choice_trace alt
rules-end given l called cs b es = rules-tried given l called cs b es

pub facts-end : (given : Builtins) (l : Level) (ts : Trees) (cs : List ClauseTree) (b : Back) (es : List Entry) → Is given l (choice (facts_left ts cs) b ∷ es) done (try_facts ts cs b es)
unfolding around choice_trace alt
facts-end given l ts cs b es = facts-tried given l ts cs b es

pub branches-end : (given : Builtins) (l : Level) (gs : GoalTrees) (b : Back) (es : List Entry) → Is given l (choice (branches_left gs) b ∷ es) done (branch gs b es)
unfolding around choice_trace alt
branches-end given l gs b es = branch-is given l gs b es

pub alternatives-end : (given : Builtins) (l : Level) (name : List ℕ) (args : List Tree) (p : Pending) (b : Back) (es : List Entry) →
    Is given l (choice (alternatives_left name args p []) b ∷ es) done (config failed es)
unfolding around choice_trace alternatives_trace now_trace alt
alternatives-end given l name args p b es = refl

-- a function call without an answer
pub unresolved-raise : (A : Type 0) (called : Tree) (s : State) → raised_with {A = A} (codes "unresolved_function_call") called s ≡ end (Raise (unresolved called s))
unfolding raised_with exception_with
unresolved-raise A called s = refl

-- what a search found goes on
pub found-goes-on : (given : Builtins) (l : Level) (b : Back) (s : State) → then (one s) (λ r. continued given l b.frames (point l b.slots r)) ≡ run_from given l no_goals b.slots s b.frames
unfolding then
found-goes-on given l b s = alt-done (continued given l b.frames (point l b.slots s)) ∙ sym (no-goal given l b.slots s b.frames)

pub strict-ends : (given : Builtins) (l : Level) (level : Strict) (b : Back) (es : List Entry) → Is given l (strict level b ∷ es) done (end_step level b es)
unfolding around level_trace end_step now_trace then first negated chosen collected counted alt
strict-ends given l once_level b es = refl
strict-ends given l not_level b es = ap (λ u. around given l es u []) (goes-on given l b.frames b.slots b.state)
strict-ends given l (if_level g other) b es = ap (λ u. around given l es u []) (sym (goal-alone given l other b.slots b.state b.frames))
strict-ends given l (guard_level called c cs) b es = rules-tried given l called cs b es
strict-ends given l (value_level called into) b es =
    ap (λ u. around given l es (then u (continued given l b.frames)) []) (unresolved-raise Point called b.state)
strict-ends given l (list_level slot into got) b es =
    ap (λ us. around given l es (then (one (with_list (start_of l b) into us)) (continued given l b.frames)) []) (append-none got)
    ∙ ap (λ u. around given l es u []) (goes-on given l b.frames (slice_set b.slots into (Some (list_of_copies (next b.state) got))) (with_new_variables (new_in_all got) b.state))
strict-ends given l (number_level into n) b es =
    ap (λ m. around given l es (then (one (with_slot (start_of l b) into (int (pos m)))) (continued given l b.frames)) []) (omega arith)
    ∙ ap (λ u. around given l es u []) (goes-on given l b.frames (slice_set b.slots into (Some (int (pos n)))) b.state)
strict-ends given l (search_level x false None) b es = refl
strict-ends given l (search_level x true None) b es = refl
strict-ends given l (search_level x false (Some f)) b es = ap (λ u. around given l es u []) (found-goes-on given l b f.state)
strict-ends given l (search_level x true (Some f)) b es = ap (λ u. around given l es u []) (found-goes-on given l b f.state)

pub catch-ends : (given : Builtins) (l : Level) (ball : Tree) (handler : GoalTree) (b : Back) (es : List Entry) → Is given l (catch_level ball handler b ∷ es) done (config failed es)
unfolding around catch_trace now_trace then caught alt
catch-ends given l ball handler b es = refl

pub left-ends : (given : Builtins) (l : Level) (es : List Entry) → Is given l (left ∷ es) done (config failed es)
unfolding around now_trace
left-ends given l es = exit-passes given l es done []

-- ---- exceptions

pub choice-raises : (given : Builtins) (l : Level) (c : Choice) (b : Back) (es : List Entry) (ball : Tree) → Is given l (choice c b ∷ es) (end (Raise ball)) (config (raising ball) es)
unfolding around now_trace alt
choice-raises given l c b es ball = refl

pub strict-raises : (given : Builtins) (l : Level) (level : Strict) (b : Back) (es : List Entry) (ball : Tree) → Is given l (strict level b ∷ es) (end (Raise ball)) (config (raising ball) es)
unfolding around level_trace now_trace then first negated chosen collected counted
strict-raises given l once_level b es ball = refl
strict-raises given l not_level b es ball = refl
strict-raises given l (if_level g other) b es ball = refl
strict-raises given l (guard_level called c cs) b es ball = refl
strict-raises given l (value_level called into) b es ball = refl
strict-raises given l (list_level slot into got) b es ball = refl
strict-raises given l (number_level into n) b es ball = refl
strict-raises given l (search_level x false f) b es ball = refl
strict-raises given l (search_level x true f) b es ball = refl

handler-runs : (given : Builtins) (l : Level) (handler : GoalTree) (b : Back) (raised : Tree) (o : Option State) →
    then (handled_in b.state raised (λ s. meaning given handler (point l b.slots s)) o) (continued given l b.frames) ≡ now_trace given l (handler_step handler b raised o)
unfolding now_trace then
handler-runs given l handler b raised None = refl
handler-runs given l handler b raised (Some s) =
    then-assoc (settled b.state s) (λ r. meaning given handler (point l b.slots r)) (continued given l b.frames)
    ∙ ap (then (settled b.state s)) (fun_ext (λ r. sym (goal-alone given l handler b.slots r b.frames)))

pub catch-raises : (given : Builtins) (l : Level) (ball : Tree) (handler : GoalTree) (b : Back) (es : List Entry) (raised : Tree) →
    Is given l (catch_level ball handler b ∷ es) (end (Raise raised))
    (config (handler_step handler b raised (unified (with_new_variables (new_variables raised) b.state) ball (copy (next b.state) raised))) es)
unfolding around catch_trace caught alt
catch-raises given l ball handler b es raised =
    ap (λ u. around given l es u []) (handler-runs given l handler b raised (unified (with_new_variables (new_variables raised) b.state) ball (copy (next b.state) raised)))

-- the catch that was left below so many marks
unfoldable pub IsMatched : ℕ → List Entry → Open → Type 0
IsMatched n es none_open = ⊥
IsMatched n es (strict_open above level b below) = ⊥
IsMatched n es (catch_open above ball handler b below) = (es ≡ above ++ catch_level ball handler b ∷ below) × IsClosed n above × IsBalanced 0 below

matched-beneath : (n m : ℕ) (x : Entry) (es : List Entry) → ((above : List Entry) → IsClosed n above → IsClosed m (x ∷ above)) → (o : Open) → IsMatched n es o → IsMatched m (x ∷ es) (beneath x o)
unfolding IsMatched
matched-beneath n m x es h none_open a = a
matched-beneath n m x es h (strict_open above level b below) a = a
matched-beneath n m x es h (catch_open above ball handler b below) a = (ap (λ xs. x ∷ xs) a.0, h above a.1, a.2)

pub left-matched : (n : ℕ) (es : List Entry) → IsBalanced (suc n) es → IsMatched n es (newest_open n es)
unfolding IsMatched IsBalanced IsClosed newest_open
left-matched n [] h = absurd h
left-matched n (choice c b ∷ es) h = matched-beneath n n (choice c b) es (λ above a. a) (newest_open n es) (left-matched n es h)
left-matched n (strict level b ∷ es) h = absurd h
left-matched zero (catch_level ball handler b ∷ es) h = (refl, tt, h)
left-matched (suc n) (catch_level ball handler b ∷ es) h =
    matched-beneath n (suc n) (catch_level ball handler b) es (λ above a. a) (newest_open n es) (left-matched n es h)
left-matched n (left ∷ es) h = matched-beneath (suc n) n left es (λ above a. a) (newest_open (suc n) es) (left-matched (suc n) es h)

left-raises-below : (given : Builtins) (l : Level) (es : List Entry) (ball : Tree) (o : Open) → IsMatched 0 es o →
    around given l es done (end (Raise ball) ∷ []) ≡ around given l (below_left o es) (end (Raise ball)) []
unfolding IsMatched around alt
left-raises-below given l es ball none_open h = absurd h
left-raises-below given l es ball (strict_open above level b below) h = absurd h
left-raises-below given l es ball (catch_open above t handler b below) h =
    let r : Reach given l above done = reach given l above h.1 done in
    ap (λ xs. around given l xs done (end (Raise ball) ∷ [])) h.0 ∙ r.1 done (end (Raise ball) ∷ []) (catch_level t handler b ∷ below)

pub left-raises : (given : Builtins) (l : Level) (es : List Entry) → IsBalanced 1 es → (ball : Tree) →
    Is given l (left ∷ es) (end (Raise ball)) (config (raising ball) (below_left (newest_open zero es) es))
unfolding around now_trace
left-raises given l es h ball = left-raises-below given l es ball (newest_open zero es) (left-matched 0 es h)
