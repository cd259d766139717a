-- Lemmas on paths that are too long.
use Rattle.std.specs.Prelude.{◌≡◌, ℕ, zero, suc, ◌<◌, Bool, true, false, cond, nat_lt, List, [], ◌∷◌, length, All, ⊤, refl}
use Rattle.std.proofs.Common.{arith, sym, ◌∙◌, ap, subst, inl, inr}
use Rattle.std.proofs.lemmas.Bool.{lt-ltb, le-ltb, ltb-false}
use Rattle.pi_traces.specs.Trace.{end, note, ans, done, Emitted, noted, answered, emit, answers}
use Rattle.pi_traces.specs.Depth.{Below, deeper, same_end, same_note, same_answer}
use Rattle.pi_resume_spec.specs.Ways.{Way, Ways}
use Rattle.pi_resume_spec.specs.Resumed.{Following, on_way, reached, cut_off, bad, At, at_first, past_note, past_answer, Leads}
use Rattle.pi_resume_spec.specs.Longest.{path_too_long, told_paths, told_behind}
use Rattle.pi_resume_spec.specs.More.{FollowsBelow, deeper_way, same_way, same_reached, same_cut, same_bad}
use Rattle.pi_resume_spec.specs.RunLaws.{IsShort, ToldPathsAreShort, ShortPathsAreTold, TheFirstLongPathEnds}
use Rattle.pi_resume_spec.proofs.ResumedLemmas.{Begun, begun}

-- ---- all of a list, item by item

abbrev Each : {X : Type 0} → (X → Type 0) → List X → Type 0
Each P [] = ⊤
Each P (x ∷ xs) = P x × Each P xs

each-all : {X : Type 0} (P : X → Type 0) (xs : List X) → All P xs → Each P xs
each-all P [] h = tt
each-all P (x ∷ xs) h = (h 0 x (omega arith), each-all P xs (λ k d l. h (suc k) d (omega arith)))

all-each : {X : Type 0} (P : X → Type 0) (xs : List X) → Each P xs → All P xs
all-each P [] h k d l = absurd (omega arith)
all-each P (x ∷ xs) h zero d l = h.0
all-each P (x ∷ xs) h (suc k) d l = all-each P xs h.1 k d (omega arith)

-- ---- which answers are given

each-told-if : {A : Type 0} (most : ℕ) (w : Way A) (rest : Ways A) (b : Bool) → nat_lt most (length w.path) ≡ b → Each (IsShort most) (answers rest) → Each (IsShort most) (answers (cond b (end path_too_long) (ans w rest)))
unfolding answers
each-told-if most w rest true e h = tt
each-told-if most w rest false e h = (ltb-false most (length w.path) e, h)

each-told : {A : Type 0} (most : ℕ) (t : Ways A) → Each (IsShort most) (answers (told_paths most t))
unfolding told_paths answers
each-told most (end e) = tt
each-told most (note n t) = each-told most t
each-told most (ans w t) = each-told-if most w (told_paths most t) (nat_lt most (length w.path)) refl (each-told most t)

pub told-short : {A : Type 0} → ToldPathsAreShort A
told-short most t = all-each (IsShort most) (answers (told_paths most t)) (each-told most t)

each-short : {A : Type 0} (most : ℕ) (t : Ways A) → Each (IsShort most) (answers t) → told_paths most t ≡ t
unfolding told_paths answers
each-short most (end e) h = refl
each-short most (note n t) h = ap (note n) (each-short most t h)
each-short most (ans w t) h = ap (λ (b : Bool). cond b (end path_too_long) (ans w (told_paths most t))) (le-ltb most (length w.path) h.0) ∙ ap (ans w) (each-short most t h.1)

pub short-told : {A : Type 0} → ShortPathsAreTold A
short-told most t h = each-short most t (each-all (IsShort most) (answers t) h)

first-long : {A : Type 0} (most : ℕ) (events : List (Emitted (Way A))) (w : Way A) (rest : Ways A) → Each (IsShort most) (answers (emit events done)) → most < length w.path →
    told_paths most (emit events (ans w rest)) ≡ emit events (end path_too_long)
unfolding told_paths answers emit
first-long most [] w rest h long = ap (λ (b : Bool). cond b (end path_too_long) (ans w (told_paths most rest))) (lt-ltb most (length w.path) long)
first-long most (noted n ∷ events) w rest h long = ap (note n) (first-long most events w rest h long)
first-long most (answered v ∷ events) w rest h long =
    ap (λ (b : Bool). cond b (end path_too_long) (ans v (told_paths most (emit events (ans w rest))))) (le-ltb most (length v.path) h.0) ∙ ap (ans v) (first-long most events w rest h.1 long)

pub first-long-ends : {A : Type 0} → TheFirstLongPathEnds A
first-long-ends most events w rest h long = first-long most events w rest (each-all (IsShort most) (answers (emit events done)) h) long

-- ---- more depth

told-if-below : {A : Type 0} (b : Bool) (w : Way A) (t u : Ways A) → Below t u → Below (cond b (end path_too_long) (ans w t)) (cond b (end path_too_long) (ans w u))
told-if-below true w t u a = same_end path_too_long
told-if-below false w t u a = same_answer w a

pub told-below : {A : Type 0} (most : ℕ) (t u : Ways A) → Below t u → Below (told_paths most t) (told_paths most u)
unfolding told_paths
told-below most _ u (deeper _) = deeper (told_paths most u)
told-below most _ _ (same_end e) = same_end e
told-below most _ _ (same_note n {t = t} {u = u} a) = same_note n (told-below most t u a)
told-below most _ _ (same_answer w {t = t} {u = u} a) = told-if-below (nat_lt most (length w.path)) w (told_paths most t) (told_paths most u) (told-below most t u a)

pub behind-below : {A : Type 0} (most : ℕ) (f g : Following A) → FollowsBelow f g → FollowsBelow (told_behind most f) (told_behind most g)
unfolding told_behind
behind-below most _ g (deeper_way _) = deeper_way (told_behind most g)
behind-below most _ _ (same_way p {f = f} {g = g} a) = same_way p (behind-below most f g a)
behind-below most _ _ (same_reached made x left {t = t} {u = u} a) = same_reached made x left (told-below most t u a)
behind-below most _ _ (same_cut e) = same_cut e
behind-below most _ _ same_bad = same_bad

-- ---- resuming

-- an answer that is told is one of the trace, and what is told behind it is what stands behind it there
pub record ToldAt {A : Type 0} (most : ℕ) (t : Ways A) (w : Way A) (rest : Ways A) : Type 0 where
  pub behind : Ways A
  pub is_there : At t w behind
  pub is_told : told_paths most behind ≡ rest

told-at-if : {A : Type 0} (most : ℕ) (b : Bool) (v : Way A) (t : Ways A) (w : Way A) (rest : Ways A) → (At (told_paths most t) w rest → ToldAt most t w rest) →
    At (cond b (end path_too_long) (ans v (told_paths most t))) w rest → ToldAt most (ans v t) w rest
unfolding Begun
told-at-if most true v t w rest later a = absurd (begun a)
told-at-if most false v t w rest later a = elim (begun a) [
  | inl (e, g) ↦ record { behind = t; is_there = subst (λ x. At (ans v t) x t) (sym e) (at_first v t); is_told = sym g }
  | inr b ↦ let h = later b in record { behind = h.behind; is_there = past_answer v h.is_there; is_told = h.is_told }
]

pub told-at : {A : Type 0} (most : ℕ) (t : Ways A) (w : Way A) (rest : Ways A) → At (told_paths most t) w rest → ToldAt most t w rest
unfolding told_paths Begun
told-at most (end e) w rest a = absurd (begun a)
told-at most (note n t) w rest a = let h = told-at most t w rest (begun a) in record { behind = h.behind; is_there = past_note n h.is_there; is_told = h.is_told }
told-at most (ans v t) w rest a = told-at-if most (nat_lt most (length v.path)) v t w rest (told-at most t w rest) a

pub leads-told : {A : Type 0} (most : ℕ) (f : Following A) (path : List ℕ) (x : A) (left : List ℕ) (rest : Ways A) → Leads f path x left rest → Leads (told_behind most f) path x left (told_paths most rest)
unfolding Leads told_behind
leads-told most (on_way n f) path x left rest h = leads-told most f path x left rest h
leads-told most (reached made y more later) path x left rest h = (h.0, h.1, h.2, ap (told_paths most) h.3)
leads-told most (cut_off e) path x left rest h = h
leads-told most bad path x left rest h = h
