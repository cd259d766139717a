-- No two answers of a labelling have a solution in common.
use Rattle.std.specs.Prelude.{◌≡◌, ℕ, zero, suc, ◌<◌, ℤ, pos, IsTrue, List, [], ◌∷◌, length, get_or, AllPairs, Option, Some, None, ⊤, refl}
use Rattle.std.proofs.Common.{arith, sym, ◌∙◌, ap, subst, inl, inr}
use Rattle.pi_constraints.specs.declared.constraint.Item.{Item}
use Rattle.pi_constraints.specs.declared.domain.Span.{Span}
use Rattle.pi_constraints.specs.Domain.{has_value, values_of}
use Rattle.pi_traces.specs.Trace.{Trace, end, note, ans, Done, done, one, alt, then, answers, end_of}
use Rattle.pi_constraints.specs.State.{State, domain_of}
use Rattle.pi_constraints.proofs.StateLemmas.{domain_good}
use Rattle.pi_settling.specs.Roots.{domain_or_all, given, by_domain}
use Rattle.pi_settling.specs.Load.{load, load_of_failure}
use Rattle.pi_settling.specs.Settled.{loaded, IsSettled}
use Rattle.pi_settling.specs.Solves.{Solves}
use Rattle.pi_settling.specs.SettlingLaws.{Settles}
use Rattle.pi_settling.proofs.TwiceLemmas.{has_in}
use Rattle.pi_settling.specs.Options.{Options}
use Rattle.pi_settling.specs.Choices.{Pending, pending, picked, Alternative, is_value, allows, alternatives, left_by, narrowed_to}
use Rattle.pi_settling.specs.Label.{Settling, Lower, one_tried, all_tried, labelled_by, labelled_at}
use Rattle.pi_settling.specs.SolutionLaws.{RunsWhatWaits}
use Rattle.pi_settling.specs.KeepLaws.{HaveNoneInCommon, AnswersPartTheSolutions}
use Rattle.pi_settling.proofs.ChoiceLemmas.{alternatives_part_the_domain}
use Rattle.pi_settling.proofs.LabelNarrows.{narrowing_keeps_solutions}
use Rattle.pi_settling.proofs.LabelKeeps.{Told, told-parts, told-there, both-done, end-loaded, none-followed, one-followed, GoesOnFrom, stable-goes_on, no-events, narrowed-goes_on, Keeps, tried-keeps, SomeAllows, HasItsDomain, MayHave, all-have, picked-has, at-keeps}

-- each answer has no solution in common with those behind it, along the trace
unfoldable Apart : Trace State → Type 0
Apart (end e) = ⊤
Apart (note n t) = Apart t
Apart (ans r t) = ((a : ℕ → ℤ) → Solves r a → Told t a → ⊥) × Apart t

apart-pairs : (t : Trace State) → Apart t → AllPairs HaveNoneInCommon (answers t)
unfolding Apart answers
apart-pairs (end e) h i j x l m = absurd (omega arith)
apart-pairs (note n t) h i j x l m = apart-pairs t h i j x l m
apart-pairs (ans r t) h zero zero x l m = absurd (omega arith)
apart-pairs (ans r t) h zero (suc j) x l m = λ a p q. h.0 a p (told-there t a (get_or (answers t) j x) j (omega arith) (same-there (answers t) j x (omega arith)) q)
  where
    same-there : (rs : List State) (j : ℕ) (x : State) → j < length rs → get_or rs j (get_or rs j x) ≡ get_or rs j x
    same-there [] j x l = absurd (omega arith)
    same-there (r ∷ rs) zero x l = refl
    same-there (r ∷ rs) (suc j) x l = same-there rs j x (omega arith)
apart-pairs (ans r t) h (suc i) zero x l m = absurd (omega arith)
apart-pairs (ans r t) h (suc i) (suc j) x l m = apart-pairs t h.1 i j x (omega arith) (omega arith)

apart-alt : (t u : Trace State) → Apart t → Apart u → ((a : ℕ → ℤ) → Told t a → Told u a → ⊥) → Apart (alt t u)
unfolding Apart Told alt
apart-alt (end Done) u h k cross = k
apart-alt (end e) u h k cross = tt
apart-alt (note n t) u h k cross = apart-alt t u h k cross
apart-alt (ans r t) u h k cross = (
  λ a p told. elim (told-parts t u a told) [ inl x ↦ h.0 a p x | inr y ↦ cross a (inl p) y ],
  apart-alt t u h.1 k (λ a x y. cross a (inr x) y),
)

apart-loaded : (k : ℕ) (t : Trace State) → Apart t → Apart (loaded k t)
unfolding Apart loaded
apart-loaded zero t h = h
apart-loaded (suc k) t h = h

-- ---- one alternative

abbrev PartsAll : Lower → Type 0
PartsAll l = (r : State) → GoesOnFrom r → end_of (l.labels r) ≡ Done → Apart (l.labels r)

tried-apart : (before s : State) (t : Trace State) (l : Lower) → GoesOnFrom s → ((r : State) → r.waiting ≡ [] → l.drains r ≡ one r) → PartsAll l → IsSettled before s t →
    end_of (then (then t l.drains) l.labels) ≡ Done → Apart (then (then t l.drains) l.labels)
unfolding Apart
tried-apart before s t l g drains parts (inl (e, is)) over =
    let same : then (then t l.drains) l.labels ≡ loaded (load_of_failure before s) done =
    ap (λ (u : Trace State). then (then u l.drains) l.labels) is ∙ none-followed (load_of_failure before s) l.drains l.labels in
    subst Apart (sym same) (apart-loaded (load_of_failure before s) done tt)
tried-apart before s t l g drains parts (inr (r, f, is)) over =
    let on : GoesOnFrom r = stable-goes_on s r g f in
    let same : then (then t l.drains) l.labels ≡ loaded (load before s r) (l.labels r) =
    ap (λ (u : Trace State). then (then u l.drains) l.labels) (is ∙ ap (λ (x : State). loaded (load before s r) (one x)) (no-events before r on.agents on.waiting))
    ∙ one-followed (load before s r) r l.drains l.labels (drains r on.waiting) in
    subst Apart (sym same) (apart-loaded (load before s r) (l.labels r) (parts r on (sym (end-loaded (load before s r) (l.labels r)) ∙ (sym (ap end_of same) ∙ over))))

record Tries (settle : Settling) (l : Lower) : Type 0 where
  settles : Settles settle
  drains : (r : State) → r.waiting ≡ [] → l.drains r ≡ one r
  keeps : (r : State) → GoesOnFrom r → Keeps r (l.labels r)
  parts : PartsAll l

one-apart : (settle : Settling) (l : Lower) → Tries settle l → (s : State) (n : ℕ) (d : List Span) (x : Alternative) → GoesOnFrom s → domain_of s n ≡ Some d → (o : Option State) →
    narrowed_to s n (left_by x d) ≡ o → end_of (one_tried settle (Some l) s o) ≡ Done → Apart (one_tried settle (Some l) s o)
unfolding Apart end_of
one-apart settle l w s n d x g has None e over = tt
one-apart settle l w s n d x g has (Some m) e over =
    let on : GoesOnFrom m = narrowed-goes_on s n d x g has (values_of (left_by x d)) refl m e in
    tried-apart s m (settle s m) l on w.drains w.parts (w.settles.each s m on.state on.may) over

-- a solution of an alternative's answer has a value that it allows
one-allowed : (settle : Settling) (l : Lower) → Tries settle l → (s : State) (n : ℕ) (d : List Span) (x : Alternative) → GoesOnFrom s → domain_of s n ≡ Some d → (o : Option State) →
    narrowed_to s n (left_by x d) ≡ o → end_of (one_tried settle (Some l) s o) ≡ Done → (a : ℕ → ℤ) → Told (one_tried settle (Some l) s o) a → Solves s a × IsTrue (allows x (a n))
unfolding Told end_of
one-allowed settle l w s n d x g has None e over a told = absurd told
one-allowed settle l w s n d x g has (Some m) e over a told =
    let law = (narrowing_keeps_solutions s n d x a g.state g.may has).0 m e in
    let on : GoesOnFrom m = narrowed-goes_on s n d x g has (values_of (left_by x d)) refl m e in
    law.0 ((tried-keeps s m (settle s m) l on w.drains w.keeps (w.settles.each s m on.state on.may) over a).1 told)

-- ---- all alternatives

all-allowed : (settle : Settling) (l : Lower) → Tries settle l → (s : State) (p : Pending) → GoesOnFrom s → HasItsDomain s p → (xs : List Alternative) → end_of (all_tried settle (Some l) s p xs) ≡ Done →
    (a : ℕ → ℤ) → Told (all_tried settle (Some l) s p xs) a → SomeAllows xs (a p.variable)
unfolding all_tried SomeAllows Told
all-allowed settle l w s p g has [] over a told = told
all-allowed settle l w s p g has (x ∷ xs) over a told =
    let t : Trace State = one_tried settle (Some l) s (narrowed_to s p.variable (left_by x p.domain)) in
    let u : Trace State = all_tried settle (Some l) s p xs in
    let ends = both-done t u over in
    elim (told-parts t u a told) [
      | inl here ↦ inl (one-allowed settle l w s p.variable p.domain x g has (narrowed_to s p.variable (left_by x p.domain)) refl ends.0 a here).1
      | inr later ↦ inr (all-allowed settle l w s p g has xs ends.1 a later)
    ]

-- of a list no two allow a value
abbrev AtMostOne : List Alternative → ℤ → Type 0
AtMostOne xs i = (j k : ℕ) → j < length xs → k < length xs → IsTrue (allows (get_or xs j (is_value (pos 0))) i) → IsTrue (allows (get_or xs k (is_value (pos 0))) i) → j ≡ k

some-place : (xs : List Alternative) (i : ℤ) → SomeAllows xs i → (k : ℕ) × (k < length xs) × IsTrue (allows (get_or xs k (is_value (pos 0))) i)
unfolding SomeAllows
some-place [] i h = absurd h
some-place (x ∷ xs) i (inl h) = (0, omega arith, h)
some-place (x ∷ xs) i (inr h) = let there = some-place xs i h in (suc there.0, omega (arith, there.1), there.2)

behind-one : (x : Alternative) (xs : List Alternative) (i : ℤ) → AtMostOne (x ∷ xs) i → AtMostOne xs i
behind-one x xs i h j k l m p q = let same : suc j ≡ suc k = h (suc j) (suc k) (omega arith) (omega arith) p q in omega arith

not-both : (x : Alternative) (xs : List Alternative) (i : ℤ) → AtMostOne (x ∷ xs) i → IsTrue (allows x i) → SomeAllows xs i → ⊥
not-both x xs i h here later =
    let there = some-place xs i later in
    let same : 0 ≡ suc there.0 = h 0 (suc there.0) (omega arith) (omega (arith, there.1)) here there.2 in
    omega arith

all-apart : (settle : Settling) (l : Lower) → Tries settle l → (s : State) (p : Pending) → GoesOnFrom s → HasItsDomain s p → (xs : List Alternative) →
    ((a : ℕ → ℤ) → Solves s a → AtMostOne xs (a p.variable)) → end_of (all_tried settle (Some l) s p xs) ≡ Done → Apart (all_tried settle (Some l) s p xs)
unfolding all_tried Apart
all-apart settle l w s p g has [] one_at_most over = tt
all-apart settle l w s p g has (x ∷ xs) one_at_most over =
    let o : Option State = narrowed_to s p.variable (left_by x p.domain) in
    let t : Trace State = one_tried settle (Some l) s o in
    let u : Trace State = all_tried settle (Some l) s p xs in
    let ends = both-done t u over in
    apart-alt t u (one-apart settle l w s p.variable p.domain x g has o refl ends.0)
    (all-apart settle l w s p g has xs (λ a h. behind-one x xs (a p.variable) (one_at_most a h)) ends.1)
    (λ a here later.
    let allowed = one-allowed settle l w s p.variable p.domain x g has o refl ends.0 a here in
    not-both x xs (a p.variable) (one_at_most a allowed.0) allowed.1 (all-allowed settle l w s p g has xs ends.1 a later))

-- ---- labelling

by-apart : (settle : Settling) (l : Lower) → Tries settle l → (o : Options) (s : State) → GoesOnFrom s → (p : Option Pending) → MayHave s p → end_of (labelled_by settle (Some l) o s p) ≡ Done →
    Apart (labelled_by settle (Some l) o s p)
unfolding Apart Told
by-apart settle l w o s g None has over = (λ a h told. told, tt)
by-apart settle l w o s g (Some p) has over =
    all-apart settle l w s p g has (alternatives o.value p.domain)
    (λ a h j k lj lk x y.
    let inside : IsTrue (has_value p.domain (a p.variable)) = has_in (given s (Item.Var p.variable)) p.domain (a p.variable) (ap domain_or_all has) (h.values (Item.Var p.variable) (by_domain p.variable p.domain refl has)) in
    let only = (alternatives_part_the_domain o.value p.domain (a p.variable) (domain_good s p.variable p.domain g.state has).0 inside).only in
    only j lj x ∙ sym (only k lk y)) over

lowest-apart : (settle : Settling) (s : State) (p : Pending) (xs : List Alternative) → end_of (all_tried settle None s p xs) ≡ Done → Apart (all_tried settle None s p xs)
unfolding all_tried Apart alt end_of
lowest-apart settle s p [] over = tt
lowest-apart settle s p (x ∷ xs) over = absurd cc

lowest-by : (settle : Settling) (o : Options) (s : State) (p : Option Pending) → end_of (labelled_by settle None o s p) ≡ Done → Apart (labelled_by settle None o s p)
unfolding Apart Told
lowest-by settle o s None over = (λ a h told. told, tt)
lowest-by settle o s (Some p) over = lowest-apart settle s p (alternatives o.value p.domain) over

at-apart : (settle : Settling) (drains : ℕ → State → Trace State) (o : Options) (items : List Item) → Settles settle → RunsWhatWaits drains → (d : ℕ) (s : State) → GoesOnFrom s →
    end_of (labelled_at settle drains o items d s) ≡ Done → Apart (labelled_at settle drains o items d s)
unfolding labelled_at
at-apart settle drains o items settles runs zero s g over = lowest-by settle o s (picked (pending s items) o.variable) over
at-apart settle drains o items settles runs (suc d) s g over =
    let l : Lower = record { drains = drains d; labels = labelled_at settle drains o items d } in
    by-apart settle l (record {
      settles = settles;
      drains = runs d;
      keeps = λ r on. at-keeps settle drains o items settles runs d r on;
      parts = λ r on ends. at-apart settle drains o items settles runs d r on ends;
    }) o s g (picked (pending s items) o.variable) (picked-has s (pending s items) o.variable (all-have s items)) over

pub answers_part_the_solutions : AnswersPartTheSolutions
answers_part_the_solutions settle drains o items settles runs s is may agents waiting d over =
    apart-pairs (labelled_at settle drains o items d s) (at-apart settle drains o items settles runs d s (record { state = is; may = may; agents = agents; waiting = waiting }) over)
