-- Lemmas on steps: an answer of a level, of a `catch`, of the query.
use Rattle.std.proofs.Common.{◌≡◌, ℕ, suc, ◌+◌, List, [], ◌∷◌, ◌++◌, refl, ap, sym, ◌∙◌, arith, append_assoc}
use Rattle.std.proofs.Math.Path.{fun_ext}
use Rattle.std.specs.Prelude.{Bool, true, false, Option, cond, codes, pos, nat_lt, slice_set}
use Rattle.pi_terms.specs.Tree.{Tree, int, atom, cells, most_cells}
use Rattle.pi_terms.specs.Places.{Places, held}
use Rattle.pi_constraints.specs.State.{State}
use Rattle.pi_core.specs.GoalTree.{GoalTree, no_goals}
use Rattle.pi_traces.specs.Trace.{Trace, end, ans, done, one, alt, then, first}
use Rattle.pi_traces.specs.Control.{negated, chosen, collected, counted, caught}
use Rattle.pi_meaning.specs.CoreMeaning.Builtins.{Builtins}
use Rattle.pi_meaning.specs.Shared.Raise.{too_large}
use Rattle.pi_meaning.specs.Shared.Level.{Level, Point}
use Rattle.pi_meaning.specs.CoreMeaning.Meaning.{with_slot, slot_value, copyable, with_list}
use Rattle.pi_meaning.specs.CoreMeaning.Run.{Solution, solution, told, answered_with}
use Rattle.pi_core.specs.declared.core_program.NameSlot.{NameSlot}
use Rattle.pi_meaning.specs.Machine.Configuration.{Frame, Back, Search, Found, Strict, once_level, not_level, if_level, guard_level, value_level, list_level, number_level, search_level, Entry, strict, catch_level, going, failed, raising, config}
use Rattle.pi_meaning.specs.Machine.Remaining.{point, continued, run_from, start_of, level_trace, catch_trace, around, now_trace}
use Rattle.pi_meaning.specs.Machine.Step.{strict_step, leave, fits}
use Rattle.pi_meaning.proofs.Machine.StackLemmas.{IsClosed, Reach, reach}
use Rattle.pi_meaning.proofs.Machine.RunLemmas.{goal-alone, no-goal, remains}
use Rattle.pi_meaning.proofs.Machine.GoalSteps.{Is, one-goes_on, rule-taken}

-- the answer goes on behind a level
pub goes-on : (given : Builtins) (l : Level) (k : List Frame) (e : Places) (s : State) → then (one (point l e s)) (continued given l k) ≡ run_from given l no_goals e s k
goes-on given l k e s = one-goes_on (continued given l k) (point l e s) ∙ sym (no-goal given l e s k)

-- ---- what a level makes of an answer before others

-- a value that is collected, before the others
list-answer : (given : Builtins) (l : Level) (slot into : ℕ) (got : List Tree) (b : Back) (rest : Trace Tree) (big : Bool) (t : Tree) →
    then (collected (alt (cond big (end too_large) (one t)) rest) (λ x. x) (λ ts. one (with_list (start_of l b) into (got ++ ts)))) (continued given l b.frames)
    ≡ cond big (end too_large) (then (collected rest (λ x. x) (λ ts. one (with_list (start_of l b) into ((got ++ t ∷ []) ++ ts)))) (continued given l b.frames))
unfolding alt collected then
list-answer given l slot into got b rest true t = refl
list-answer given l slot into got b rest false t =
    ap (λ f. then (collected rest (λ x. x) f) (continued given l b.frames))
    (fun_ext (λ ts. ap (λ us. one (with_list (start_of l b) into us)) (sym (append_assoc got (t ∷ []) ts))))

number-answer : (given : Builtins) (l : Level) (into n : ℕ) (b : Back) (extra : Trace Point) →
    then (counted extra (λ k. one (with_slot (start_of l b) into (int (pos (n + suc k)))))) (continued given l b.frames)
    ≡ level_trace given l (number_level into (suc n)) b extra
unfolding level_trace
number-answer given l into n b extra =
    ap (λ f. then (counted extra f) (continued given l b.frames))
    (fun_ext (λ k. ap (λ m. one (with_slot (start_of l b) into (int (pos m)))) (omega arith)))

-- ---- an answer reaches its level

-- a value that is collected: too large a one is raised in its place
list-reached : (given : Builtins) (l : Level) (slot into : ℕ) (got : List Tree) (above : List Entry) (b : Back) (below : List Entry) → (r : Reach given l above done) → (big : Bool) (t : Tree) →
    around given l below (then (collected (alt (cond big (end too_large) (one t)) (then r.0 (λ q. copyable (slot_value slot q.slots q.state)))) (λ x. x)
    (λ ts. one (with_list (start_of l b) into (got ++ ts)))) (continued given l b.frames)) []
    ≡ around given l (above ++ strict (list_level slot into (cond big got (got ++ t ∷ []))) b ∷ below) (now_trace given l (cond big (raising (atom (codes "term_too_large"))) failed)) []
unfolding around now_trace level_trace then alt collected
list-reached given l slot into got above b below r true t = sym (r.1 (end too_large) [] (strict (list_level slot into got) b ∷ below))
list-reached given l slot into got above b below r false t =
    ap (λ u. around given l below u []) (list-answer given l slot into got b (then r.0 (λ q. copyable (slot_value slot q.slots q.state))) false t)
    ∙ sym (r.1 done [] (strict (list_level slot into (got ++ t ∷ [])) b ∷ below))

-- an answer of a round of a search
abbrev pub SearchAnswers : Builtins → Level → Type 0
SearchAnswers given l =
    (x : Search) (labelled : Bool) (f : Option Found) (e : Places) (s : State) (above : List Entry) → IsClosed 0 above → (b : Back) (below : List Entry) →
    Is given l (above ++ strict (search_level x labelled f) b ∷ below) (one (point l e s)) (strict_step (search_level x labelled f) e s above b below)

pub strict-answer : (given : Builtins) (l : Level) → SearchAnswers given l → (level : Strict) (e : Places) (s : State) (above : List Entry) → IsClosed 0 above → (b : Back) (below : List Entry) →
    Is given l (above ++ strict level b ∷ below) (one (point l e s)) (strict_step level e s above b below)
unfolding around now_trace level_trace strict_step then alt first negated chosen collected counted
strict-answer given l searches once_level e s above h b below =
    let r : Reach given l above done = reach given l above h done in
    r.1 (one (point l e s)) [] (strict once_level b ∷ below) ∙ ap (λ u. around given l below u []) (goes-on given l b.frames e s)
strict-answer given l searches not_level e s above h b below =
    let r : Reach given l above done = reach given l above h done in
    r.1 (one (point l e s)) [] (strict not_level b ∷ below)
strict-answer given l searches (if_level g other) e s above h b below =
    let r : Reach given l above done = reach given l above h done in
    r.1 (one (point l e s)) [] (strict (if_level g other) b ∷ below) ∙ ap (λ u. around given l below u []) (sym (goal-alone given l g e s b.frames))
strict-answer given l searches (guard_level called c cs) e s above h b below =
    let r : Reach given l above done = reach given l above h done in
    r.1 (one (point l e s)) [] (strict (guard_level called c cs) b ∷ below)
    ∙ rule-taken given l called c cs b below e s
strict-answer given l searches (value_level called into) e s above h b below =
    let r : Reach given l above done = reach given l above h done in
    r.1 (one (point l e s)) [] (strict (value_level called into) b ∷ below) ∙ ap (λ u. around given l below u []) (goes-on given l b.frames (slice_set b.slots into (held e 0)) s)
strict-answer given l searches (list_level slot into got) e s above h b below =
    let r : Reach given l above done = reach given l above h done in
    r.1 (one (point l e s)) [] (strict (list_level slot into got) b ∷ below)
    ∙ list-reached given l slot into got above b below r (nat_lt most_cells (cells (slot_value slot e s))) (slot_value slot e s)
strict-answer given l searches (number_level into n) e s above h b below =
    let r : Reach given l above done = reach given l above h done in
    r.1 (one (point l e s)) [] (strict (number_level into n) b ∷ below)
    ∙ (ap (λ u. around given l below u []) (number-answer given l into n b r.0)
    ∙ sym (r.1 done [] (strict (number_level into (suc n)) b ∷ below)))
strict-answer given l searches (search_level x labelled f) e s above h b below = searches x labelled f e s above h b below

-- ---- a catch that is left

pub catch-answer : (given : Builtins) (l : Level) (e : Places) (s : State) (above : List Entry) → IsClosed 0 above → (ball : Tree) (handler : GoalTree) (b : Back) (below : List Entry) →
    Is given l (above ++ catch_level ball handler b ∷ below) (one (point l e s)) (config (going no_goals e s b.frames) (leave above ball handler b below))
unfolding around now_trace catch_trace then alt caught
catch-answer given l e s [] h ball handler b below = ap (λ u. around given l below u []) (goes-on given l b.frames e s)
catch-answer given l e s (x ∷ above) h ball handler b below =
    let r : Reach given l (x ∷ above) done = reach given l (x ∷ above) h done in
    let behind : Trace Point = run_from given l no_goals e s b.frames in
    let k : Trace Point = catch_trace given l ball handler b r.0 in
    r.1 (one (point l e s)) [] (catch_level ball handler b ∷ below)
    ∙ (ap (λ u. around given l below u []) (ap (λ u. alt u k) (sym (no-goal given l e s b.frames)))
    ∙ sym (r.1 done (behind ∷ []) (catch_level ball handler b ∷ below)))

-- ---- an answer of the query

pub append-none : {A : Type 0} (xs : List A) → xs ++ [] ≡ xs
append-none [] = refl
append-none (x ∷ xs) = ap (λ ys. x ∷ ys) (append-none xs)

-- the answer, and what remains
pub query-answer : (given : Builtins) (l : Level) (e : Places) (s : State) (es : List Entry) → IsClosed 0 es →
    around given l es (one (point l e s)) [] ≡ ans (point l e s) (remains given l failed es)
unfolding around now_trace alt
query-answer given l e s es h =
    let r : Reach given l es done = reach given l es h done in
    ap (λ xs. around given l xs (one (point l e s)) []) (sym (append-none es))
    ∙ (r.1 (one (point l e s)) [] []
    ∙ ap (λ t. ans (point l e s) t) (sym (r.1 done [] []) ∙ ap (λ xs. around given l xs done []) (append-none es)))

told-one : (big fit : Bool) (u t : Trace Solution) → u ≡ cond fit t (end too_large) → cond big (end too_large) u ≡ cond (cond big false fit) t (end too_large)
told-one true fit u t h = refl
told-one false fit u t h = h

-- what names tell: the answer, or that it is too large
told-or-too_large : (names : List NameSlot) (x : Solution) (t : Trace Solution) → told names x t ≡ cond (fits names x) t (end too_large)
unfolding told fits
told-or-too_large [] x t = refl
told-or-too_large (n ∷ names) x t = told-one (nat_lt most_cells (cells (slot_value n.slot x.slots x.state))) (fits names x) (told names x t) t (told-or-too_large names x t)

-- an answer that is told goes on, and one that is too large ends the whole
pub told-answer : (names : List NameSlot) (p : Point) (t : Trace Point) → fits names (solution p) ≡ true →
    then (ans p t) (answered_with names) ≡ ans (solution p) (then t (answered_with names))
unfolding then alt
told-answer names p t h =
    ap (λ u. alt u (then t (answered_with names)))
    (told-or-too_large names (solution p) (one (solution p)) ∙ ap (λ b. cond b (one (solution p)) (end too_large)) h)

pub told-too_large : (names : List NameSlot) (p : Point) (t : Trace Point) → fits names (solution p) ≡ false →
    then (ans p t) (answered_with names) ≡ end too_large
unfolding then alt
told-too_large names p t h =
    ap (λ u. alt u (then t (answered_with names)))
    (told-or-too_large names (solution p) (one (solution p)) ∙ ap (λ b. cond b (one (solution p)) (end too_large)) h)
