-- A labelling that comes to its end at some depth is the same at each greater one.
use Rattle.std.specs.Prelude.{◌≡◌, ℕ, zero, suc, ◌+◌, ◌-◌, ◌≤◌, List, [], ◌∷◌, Option, Some, None, refl}
use Rattle.std.proofs.Common.{arith, sym, ◌∙◌, ap, inl, inr}
use Rattle.pi_constraints.specs.declared.constraint.Item.{Item}
use Rattle.pi_constraints.specs.Domain.{values_of}
use Rattle.pi_constraints.specs.State.{State}
use Rattle.pi_traces.specs.Trace.{Trace, note, Done, Tick, done, one, alt, then, end_of}
use Rattle.pi_settling.specs.Load.{load, load_of_failure}
use Rattle.pi_settling.specs.Settled.{loaded, with_events, IsSettled}
use Rattle.pi_settling.specs.SettlingLaws.{Settles}
use Rattle.pi_settling.specs.Options.{Options}
use Rattle.pi_settling.specs.Choices.{Pending, pending, picked, Alternative, alternatives, left_by, narrowed_to}
use Rattle.pi_settling.specs.Label.{Settling, Lower, one_tried, all_tried, labelled_by, labelled_at}
use Rattle.pi_settling.proofs.LabelKeeps.{both-done, end-loaded, none-followed, one-followed, GoesOnFrom, stable-goes_on, no-events, narrowed-goes_on, HasItsDomain, MayHave, all-have, picked-has}
use Rattle.pi_label_laws.specs.SolutionLaws.{RunsWhatWaits}

-- two lower depths, of which the second does the same where the first comes to its end
record SameAbove (l m : Lower) : Type 0 where
  first : (r : State) → r.waiting ≡ [] → l.drains r ≡ one r
  second : (r : State) → r.waiting ≡ [] → m.drains r ≡ one r
  labels : (r : State) → GoesOnFrom r → end_of (l.labels r) ≡ Done → m.labels r ≡ l.labels r

followed-is : (before s r : State) (t : Trace State) (l : Lower) → GoesOnFrom r → ((r : State) → r.waiting ≡ [] → l.drains r ≡ one r) → t ≡ loaded (load before s r) (one (with_events before r)) →
    then (then t l.drains) l.labels ≡ loaded (load before s r) (l.labels r)
followed-is before s r t l on drains is =
    ap (λ (u : Trace State). then (then u l.drains) l.labels) (is ∙ ap (λ (x : State). loaded (load before s r) (one x)) (no-events before r on.agents on.waiting))
    ∙ one-followed (load before s r) r l.drains l.labels (drains r on.waiting)

none-is : (before s : State) (t : Trace State) (l : Lower) → t ≡ loaded (load_of_failure before s) done → then (then t l.drains) l.labels ≡ loaded (load_of_failure before s) done
none-is before s t l is = ap (λ (u : Trace State). then (then u l.drains) l.labels) is ∙ none-followed (load_of_failure before s) l.drains l.labels

tried-same : (before s : State) (t : Trace State) (l m : Lower) → SameAbove l m → GoesOnFrom s → IsSettled before s t → end_of (then (then t l.drains) l.labels) ≡ Done → then (then t m.drains) m.labels ≡ then (then t l.drains) l.labels
tried-same before s t l m w g (inl (e, is)) over = none-is before s t m is ∙ sym (none-is before s t l is)
tried-same before s t l m w g (inr (r, f, is)) over =
    let on : GoesOnFrom r = stable-goes_on s r g f in
    let k : ℕ = load before s r in
    let inner : end_of (l.labels r) ≡ Done = sym (end-loaded k (l.labels r)) ∙ (sym (ap end_of (followed-is before s r t l on w.first is)) ∙ over) in
    followed-is before s r t m on w.second is ∙ (ap (loaded k) (w.labels r on inner) ∙ sym (followed-is before s r t l on w.first is))

one-same : (settle : Settling) (l m : Lower) → Settles settle → SameAbove l m → (s : State) (p : Pending) (x : Alternative) → GoesOnFrom s → HasItsDomain s p → (o : Option State) → narrowed_to s p.variable (left_by x p.domain) ≡ o →
    end_of (one_tried settle (Some l) s o) ≡ Done → one_tried settle (Some m) s o ≡ one_tried settle (Some l) s o
unfolding end_of
one-same settle l m settles w s p x g has None e over = refl
one-same settle l m settles w s p x g has (Some q) e over =
    let on : GoesOnFrom q = narrowed-goes_on s p.variable p.domain x g has (values_of (left_by x p.domain)) refl q e in
    ap (note Tick) (tried-same s q (settle s q) l m w on (settles.each s q on.state on.may) over)

all-same : (settle : Settling) (l m : Lower) → Settles settle → SameAbove l m → (s : State) (p : Pending) → GoesOnFrom s → HasItsDomain s p → (xs : List Alternative) → end_of (all_tried settle (Some l) s p xs) ≡ Done →
    all_tried settle (Some m) s p xs ≡ all_tried settle (Some l) s p xs
unfolding all_tried
all-same settle l m settles w s p g has [] over = refl
all-same settle l m settles w s p g has (x ∷ xs) over =
    let o : Option State = narrowed_to s p.variable (left_by x p.domain) in
    let ends = both-done (one_tried settle (Some l) s o) (all_tried settle (Some l) s p xs) over in
    let first = one-same settle l m settles w s p x g has o refl ends.0 in
    let rest = all-same settle l m settles w s p g has xs ends.1 in
    (λ i. alt (first i) (rest i))

by-same : (settle : Settling) (l m : Lower) → Settles settle → SameAbove l m → (o : Options) (s : State) → GoesOnFrom s → (p : Option Pending) → MayHave s p → end_of (labelled_by settle (Some l) o s p) ≡ Done →
    labelled_by settle (Some m) o s p ≡ labelled_by settle (Some l) o s p
by-same settle l m settles w o s g None has over = refl
by-same settle l m settles w o s g (Some p) has over = all-same settle l m settles w s p g has (alternatives o.value p.domain) over

lowest-same : (settle : Settling) (m : Lower) (s : State) (p : Pending) (xs : List Alternative) → end_of (all_tried settle None s p xs) ≡ Done → all_tried settle (Some m) s p xs ≡ all_tried settle None s p xs
unfolding all_tried alt end_of
lowest-same settle m s p [] over = refl
lowest-same settle m s p (x ∷ xs) over = absurd cc

lowest-by : (settle : Settling) (m : Lower) (o : Options) (s : State) (p : Option Pending) → end_of (labelled_by settle None o s p) ≡ Done → labelled_by settle (Some m) o s p ≡ labelled_by settle None o s p
lowest-by settle m o s None over = refl
lowest-by settle m o s (Some p) over = lowest-same settle m s p (alternatives o.value p.domain) over

same-next : (settle : Settling) (drains : ℕ → State → Trace State) (o : Options) (items : List Item) → Settles settle → RunsWhatWaits drains → (d : ℕ) (s : State) → GoesOnFrom s → end_of (labelled_at settle drains o items d s) ≡ Done →
    labelled_at settle drains o items (suc d) s ≡ labelled_at settle drains o items d s
unfolding labelled_at
same-next settle drains o items settles runs zero s g over = lowest-by settle (record { drains = drains 0; labels = labelled_at settle drains o items 0 }) o s (picked (pending s items) o.variable) over
same-next settle drains o items settles runs (suc d) s g over =
    by-same settle (record { drains = drains d; labels = labelled_at settle drains o items d }) (record { drains = drains (suc d); labels = labelled_at settle drains o items (suc d) }) settles
    (record { first = runs d; second = runs (suc d); labels = λ r on ends. same-next settle drains o items settles runs d r on ends }) o s g (picked (pending s items) o.variable)
    (picked-has s (pending s items) o.variable (all-have s items)) over

same-more : (settle : Settling) (drains : ℕ → State → Trace State) (o : Options) (items : List Item) → Settles settle → RunsWhatWaits drains → (k d : ℕ) (s : State) → GoesOnFrom s → end_of (labelled_at settle drains o items d s) ≡ Done →
    labelled_at settle drains o items (k + d) s ≡ labelled_at settle drains o items d s
same-more settle drains o items settles runs zero d s g over = ap (λ (n : ℕ). labelled_at settle drains o items n s) (none-more d)
  where
    none-more : (d : ℕ) → 0 + d ≡ d
    none-more d = omega arith
same-more settle drains o items settles runs (suc k) d s g over =
    let before : labelled_at settle drains o items (k + d) s ≡ labelled_at settle drains o items d s = same-more settle drains o items settles runs k d s g over in
    ap (λ (n : ℕ). labelled_at settle drains o items n s) (one-more k d) ∙ (same-next settle drains o items settles runs (k + d) s g (ap end_of before ∙ over) ∙ before)
  where
    one-more : (k d : ℕ) → suc k + d ≡ suc (k + d)
    one-more k d = omega arith

pub same-at : (settle : Settling) (drains : ℕ → State → Trace State) (o : Options) (items : List Item) → Settles settle → RunsWhatWaits drains → (d e : ℕ) (s : State) → GoesOnFrom s → end_of (labelled_at settle drains o items d s) ≡ Done →
    d ≤ e → labelled_at settle drains o items e s ≡ labelled_at settle drains o items d s
same-at settle drains o items settles runs d e s g over l =
    ap (λ (n : ℕ). labelled_at settle drains o items n s) (the-rest d e l) ∙ same-more settle drains o items settles runs (e - d) d s g over
  where
    the-rest : (d e : ℕ) → d ≤ e → e ≡ (e - d) + d
    the-rest d e l = omega (arith, l)
