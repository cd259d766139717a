-- The loop of the reader against the steps of the machine.
use Rattle.std.proofs.Common.{◌≡◌, ◌==◌, Bool, true, false, ℕ, ◌+◌, ◌*◌, ◌<◌, suc, List, [], ◌∷◌, ◌++◌, length, refl, ap, subst, sym, ◌∙◌, arith}
use Rattle.std.proofs.lemmas.Bool.{eqb-true, false≢true}
use Rattle.std.proofs.lemmas.List.{nil_from_length}
use Rattle.pi_syntax.specs.ExpTree.{ExpTree}
use Rattle.pi_syntax.specs.Terminals as t
use Rattle.pi_expr_phrases.specs.Machine as m
use Rattle.pi_expr_phrases.specs.Machine.{Runs, stop, go, step}
use Rattle.pi_expr_phrases.specs.Shown.{terminals}
use Rattle.pi_expr.specs.Sizes.{size}
use Rattle.pi_expr_phrases.specs.Turns.{ShowsFrame}
use Rattle.pi_expr.specs.States.{ShowsStack, ShowsState}
use Rattle.pi_expr_phrases.specs.declared.frame.Frame.{Frame}
use Rattle.pi_expr.specs.declared.reader.State.{State}
use Rattle.pi_expr.specs.declared.reader.State.TheVariants as state
use Rattle.pi_expr.proofs.SizeLemmas.{next_down}

-- the machine ends from both with the same trees
abbrev pub Same : m.State → m.State → Type 0
Same a b = ((e : ExpTree) → Runs b e → Runs a e) × ((e : ExpTree) → Runs a e → Runs b e)

pub same_start : (a : m.State) → Same a a
same_start a = (λ e r. r, λ e r. r)

next_is : {a b : m.State} → m.next a ≡ m.next b → a ≡ b
next_is {a} {b} p = let f : m.Outcome → m.State = λ o. elim o [ m.next s ↦ s | _ ↦ a ] in ap f p

runs_on : {s n : m.State} {e : ExpTree} → step s ≡ m.next n → Runs s e → Runs n e
runs_on {s} {n} {e} p (stop q) = absurd (cc)
runs_on {s} {n} {e} p (go k q r) = subst (λ (a : m.State). Runs a e) (next_is (sym q ∙ p)) r

pub same_step : (a s n : m.State) → Same a s → step s ≡ m.next n → Same a n
same_step a s n h p = (λ e r. h.0 e (go n p r), λ e r. runs_on p (h.1 e r))

pub none_from : (s : m.State) (e : ExpTree) → step s ≡ m.fail → Runs s e → ⊥
none_from s e p (stop q) = cc
none_from s e p (go k q r) = cc

pub ends_none : (a s : m.State) → Same a s → step s ≡ m.fail → (e : ExpTree) → Runs a e → ⊥
ends_none a s h p e r = none_from s e p (h.1 e r)

-- stacks

more_frames : (xs : List Frame) (x : Frame) → length (xs ++ x ∷ []) ≡ suc (length xs)
more_frames [] x = refl
more_frames (y ∷ xs) x = ap suc (more_frames xs x)

pub push_stack : (xs ys : List Frame) (x : Frame) (f : m.Frame) (fs : List m.Frame) → ys ≡ xs ++ x ∷ [] → ShowsFrame x f → ShowsStack xs fs
    → ShowsStack ys (f ∷ fs)
push_stack xs ys x f fs p h i = (xs, (x, (p, (h, i))))

last_of : Frame → List Frame → Frame
last_of d [] = d
last_of d (x ∷ xs) = last_of x xs

last_of-push : (d : Frame) (xs : List Frame) (x : Frame) → last_of d (xs ++ x ∷ []) ≡ x
unfolding last_of
last_of-push d [] x = refl
last_of-push d (y ∷ xs) x = last_of-push y xs x

front_of : List Frame → List Frame
front_of [] = []
front_of (x ∷ []) = []
front_of (x ∷ y ∷ xs) = x ∷ front_of (y ∷ xs)

front_of-push : (xs : List Frame) (x : Frame) → front_of (xs ++ x ∷ []) ≡ xs
unfolding front_of
front_of-push [] x = refl
front_of-push (y ∷ []) x = refl
front_of-push (y ∷ z ∷ xs) x = ap (λ zs. y ∷ zs) (front_of-push (z ∷ xs) x)

push_not_none : (xs : List Frame) (x : Frame) → [] ≡ xs ++ x ∷ [] → ⊥
push_not_none [] x p = cc
push_not_none (y ∷ xs) x p = cc

-- a popped stack: its last shows the newest open phrase
pub popped : (old new : List Frame) (x : Frame) (fs : List m.Frame) → old ≡ new ++ x ∷ [] → ShowsStack old fs
    → (f : m.Frame) × ((gs : List m.Frame) × ((fs ≡ f ∷ gs) × (ShowsFrame x f × ShowsStack new gs)))
popped old new x [] p h = absurd (push_not_none new x (sym h ∙ p))
popped old new x (f ∷ fs) p (older, (y, (q, (h, i)))) =
    let same = sym q ∙ p in
    let last : y ≡ x = sym (last_of-push y older y) ∙ ap (last_of y) same ∙ last_of-push y new x in
    let front : older ≡ new = sym (front_of-push older y) ∙ ap front_of same ∙ front_of-push new x in
    (f, (fs, (refl, (subst (λ (z : Frame). ShowsFrame z f) last h, subst (λ (zs : List Frame). ShowsStack zs fs) front i))))

pub none_popped : (old : List Frame) (fs : List m.Frame) → length old ≡ 0 → ShowsStack old fs → fs ≡ []
none_popped old [] p h = refl
none_popped old (f ∷ fs) p (older, (x, (q, h))) = absurd (omega (arith, p, ap (λ (ys : List Frame). length ys) q, more_frames older x))

-- sizes

pub length_stack : (xs : List Frame) (fs : List m.Frame) → ShowsStack xs fs → length xs ≡ length fs
length_stack xs [] h = ap (λ (ys : List Frame). length ys) h
length_stack xs (f ∷ fs) (older, (x, (q, (h, i)))) = let more = length_stack older fs i in omega (arith, ap (λ (ys : List Frame). length ys) q, more_frames older x)

-- what is left to read
abbrev pub left : State → ℕ
left (state.Operand ts) = length (terminals ts)
left (state.Value k b x ts) = length (terminals ts)

pub size_shown : (stack : List Frame) (st : State) (s : m.State) → ShowsState stack st s → 2 * left st + length stack ≡ size s
size_shown stack (state.Operand ts) s (fs, (p, h)) =
    rw p (omega (arith, length_stack stack fs h))
size_shown stack (state.Value k b x ts) s (fs, (e, (p, (h, i)))) =
    rw p (omega (arith, length_stack stack fs i))

pub steps_smaller : (old new : List Frame) (a b : State) (s n : m.State) → ShowsState old a s → step s ≡ m.next n → ShowsState new b n
    → 2 * left b + length new < 2 * left a + length old
steps_smaller old new a b s n h p i = omega (arith, size_shown old a s h, size_shown new b n i, next_down s n p)

-- the end

pub finish_read : (e : ExpTree) (ts : List t.Terminal) (b : Bool) → b ≡ (length ts == 0) → b ≡ true → m.finish e ts ≡ m.done e
finish_read e ts b p q = rw (nil_from_length ts (eqb-true (length ts) 0 (sym p ∙ q))) refl

pub finish_not : (e : ExpTree) (ts : List t.Terminal) (b : Bool) → b ≡ (length ts == 0) → b ≡ false → m.finish e ts ≡ m.fail
finish_not e [] b p q = absurd (false≢true (sym q ∙ p))
finish_not e (first ∷ ts) b p q = refl
