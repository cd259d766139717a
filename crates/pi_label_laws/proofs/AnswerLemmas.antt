-- What the answers of a labelling are, and in what order they stand.
use Rattle.std.specs.Prelude.{◌≡◌, ◌⊎◌, ℕ, zero, suc, ℤ, IsTrue, List, [], ◌∷◌, Option, Some, None, refl}
use Rattle.std.proofs.Common.{sym, ◌∙◌, ap, subst, inl, inr}
use Rattle.pi_constraints.specs.declared.constraint.Item.{Item}
use Rattle.pi_constraints.specs.State.{State}
use Rattle.pi_constraints.proofs.StateLemmas.{domain_good}
use Rattle.pi_prop_spec.specs.Solutions.{value_of}
use Rattle.pi_traces.specs.Trace.{Trace, Done, done, one, alt, then, end_of}
use Rattle.pi_settling.specs.Roots.{root_item}
use Rattle.pi_settling.specs.Stable.{IsStable}
use Rattle.pi_settling.specs.Load.{load, load_of_failure}
use Rattle.pi_settling.specs.Settled.{loaded, IsSettled}
use Rattle.pi_settling.specs.Solves.{Solves}
use Rattle.pi_settling.specs.SettlingLaws.{Settles}
use Rattle.pi_settling.specs.Options.{Options}
use Rattle.pi_settling.specs.Choices.{Pending, pending, picked, Alternative, allows, alternatives, left_by, narrowed_to}
use Rattle.pi_settling.specs.Label.{Settling, Lower, one_tried, all_tried, labelled_by, labelled_at}
use Rattle.pi_settling.proofs.TwiceLemmas.{stable_stays_stable}
use Rattle.pi_settling.proofs.LabelKeeps.{both-done, end-loaded, none-followed, one-followed, GoesOnFrom, stable-goes_on, no-events, SomeAllows}
use Rattle.pi_label_laws.specs.SolutionLaws.{RunsWhatWaits, StandsBefore}
use Rattle.pi_label_laws.proofs.RestLemmas.{IsTold}
use Rattle.pi_label_laws.proofs.RankLemmas.{ComesOut}
use Rattle.pi_label_laws.proofs.LaterLemmas.{Later, later-itself, later-then, later-stable, Narrows, narrowed-later}
use Rattle.pi_label_laws.proofs.TraceLemmas.{EachAnswer, InOrder, each-more, each-alt, order-alt, each-loaded, order-loaded}
use Rattle.pi_label_laws.proofs.PickLemmas.{none-told, IsPending, is-pending, none-pending, told_values, Parts, AreOut, stands-before}
use Rattle.pi_label_laws.proofs.AlternativeLemmas.{AllAhead, alternatives-ahead}

-- ---- items

-- an item comes out as what it leads to does
by-root : (s r : State) (x : Item) (n : ℕ) → Later s r → root_item s x ≡ Item.Var n → ComesOut r (Item.Var n) → ComesOut r x
by-root s r x n l e (inl (v, f, has)) = inl (v, sym (l.roots x) ∙ (ap (root_item r) e ∙ f), has)
by-root s r x n l e (inr (i, f)) = inr (i, sym (l.roots x) ∙ (ap (root_item r) e ∙ f))

out-later : (s r : State) (x : Item) → Later s r → ComesOut s x → ComesOut r x
out-later s r x l (inl (v, e, has)) = by-root s r x v l e (l.comes v has)
out-later s r x l (inr (i, e)) = inr (i, sym (l.roots x) ∙ ap (root_item r) e)

pub are-out : (s r : State) (items : List Item) → Later s r → AreOut s items → AreOut r items
are-out s r items l out x at = out-later s r x l (out x at)

-- ---- answers

-- an answer of what goes on from a state of the labelling that began in the first
pub record Answer (items : List Item) (s s' r : State) : Type 0 where
  pub later : Later s' r
  pub none : pending r items ≡ []
  pub settled : IsStable r r ⊎ (r ≡ s)

-- two answers in their order
abbrev pub Ordered : Options → List Item → State → State → Type 0
Ordered o items r q = StandsBefore o.variable o.value (told_values r items) (told_values q items)

-- each such answer has a solution
abbrev pub Solved : List Item → State → Type 0
Solved items s = (r : State) → Answer items s s r → (a : ℕ → ℤ) × Solves r a

abbrev pub Answers : Options → List Item → State → State → Trace State → Type 0
Answers o items s s' t = EachAnswer (Answer items s s') t × InOrder (Ordered o items) t

-- what labelling does at a lower depth
abbrev pub LabelsOn : Options → List Item → State → Lower → Type 0
LabelsOn o items s l = (r : State) → Later s r → IsStable r r → end_of (l.labels r) ≡ Done → Answers o items s r (l.labels r)

-- ---- one alternative

-- what follows a settled state
record Followed (m : State) (l : Lower) (t : Trace State) : Type 0 where
  state : State
  stable : IsStable m state
  count : ℕ
  is : t ≡ loaded count (l.labels state)

tried-is : (before m : State) (t : Trace State) (l : Lower) → GoesOnFrom m → ((r : State) → r.waiting ≡ [] → l.drains r ≡ one r) → IsSettled before m t →
    ((k : ℕ) × (then (then t l.drains) l.labels ≡ loaded k done)) ⊎ Followed m l (then (then t l.drains) l.labels)
tried-is before m t l g drains (inl (e, is)) =
    inl (load_of_failure before m, ap (λ (u : Trace State). then (then u l.drains) l.labels) is ∙ none-followed (load_of_failure before m) l.drains l.labels)
tried-is before m t l g drains (inr (r, f, is)) =
    let on : GoesOnFrom r = stable-goes_on m r g f in
    inr (record {
      state = r;
      stable = f;
      count = load before m r;
      is = ap (λ (u : Trace State). then (then u l.drains) l.labels) (is ∙ ap (λ (x : State). loaded (load before m r) (one x)) (no-events before r on.agents on.waiting)) ∙ one-followed (load before m r) r l.drains l.labels (drains r on.waiting);
    })

-- the variable's value in an answer is one that the alternative allows
abbrev Allowed : State → ℕ → (ℤ → Type 0) → Type 0
Allowed q n P = (i : ℤ) × (root_item q (Item.Var n) ≡ Item.Int i) × P i

record Tries (settle : Settling) (o : Options) (items : List Item) (s s' : State) (l : Lower) (p : Pending) : Type 0 where
  settles : Settles settle
  drains : (r : State) → r.waiting ≡ [] → l.drains r ≡ one r
  labels : LabelsOn o items s l
  solved : Solved items s
  later : Later s s'
  pends : IsPending s' items p

answer-told : (items : List Item) (s s' q : State) (p : Pending) → IsPending s' items p → Answer items s s' q → IsTold q (Item.Var p.variable)
answer-told items s s' q p pends ans =
    let out : ComesOut q pends.item = by-root s' q pends.item p.variable ans.later pends.root (ans.later.comes p.variable (p.domain, pends.has)) in
    let told : IsTold q pends.item = none-told q items ans.none pends.item pends.at out in
    (told.0, sym (ap (root_item q) pends.root) ∙ (ans.later.roots pends.item ∙ told.1))

answer-allowed : (items : List Item) (s s' m q : State) (x : Alternative) (p : Pending) → Solved items s → Later s s' → IsPending s' items p → Narrows s' p.variable x m → Later m q → Answer items s s' q →
    Allowed q p.variable (λ i. IsTrue (allows x i))
answer-allowed items s s' m q x p solved later pends narrows behind ans =
    let told : IsTold q (Item.Var p.variable) = answer-told items s s' q p pends ans in
    let solution = solved q (record { later = later-then s s' q later ans.later; none = ans.none; settled = ans.settled }) in
    let a : ℕ → ℤ = solution.0 in
    let allowed : IsTrue (allows x (a p.variable)) = narrows.allowed a (behind.back a solution.1) in
    let value : a p.variable ≡ told.0 = sym (solution.1.follows p.variable) ∙ ap (value_of a) told.1 in
    (told.0, told.1, subst (λ (i : ℤ). IsTrue (allows x i)) value allowed)

-- the answers of one alternative
abbrev OneAnswers : Options → List Item → State → State → Pending → (ℤ → Type 0) → Trace State → Type 0
OneAnswers o items s s' p P t = EachAnswer (λ q. Answer items s s' q × Allowed q p.variable P) t × InOrder (Ordered o items) t

followed-answers : (settle : Settling) (o : Options) (items : List Item) (s s' m : State) (l : Lower) (p : Pending) (x : Alternative) (t : Trace State) → Tries settle o items s s' l p → Narrows s' p.variable x m → Followed m l t →
    end_of t ≡ Done → OneAnswers o items s s' p (λ i. IsTrue (allows x i)) t
followed-answers settle o items s s' m l p x t w narrows f over =
    let g : GoesOnFrom m = narrows.later.on in
    let r : State = f.state in
    let behind : Later m r = later-stable m r g f.stable in
    let rests : IsStable r r = stable_stays_stable m r g.state behind.on.state g.may f.stable in
    let here : Later s' r = later-then s' m r narrows.later behind in
    let inner = w.labels r (later-then s s' r w.later here) rests (sym (end-loaded f.count (l.labels r)) ∙ (sym (ap end_of f.is) ∙ over)) in
    let each : EachAnswer (λ q. Answer items s s' q × Allowed q p.variable (λ i. IsTrue (allows x i))) (l.labels r) =
    each-more (Answer items s r) (λ q. Answer items s s' q × Allowed q p.variable (λ i. IsTrue (allows x i))) (l.labels r) (λ q ans.
    let whole : Answer items s s' q = record { later = later-then s' r q here ans.later; none = ans.none; settled = ans.settled } in
    (whole, answer-allowed items s s' m q x p w.solved w.later w.pends narrows (later-then m r q behind ans.later) whole)) inner.0 in
    subst (OneAnswers o items s s' p (λ i. IsTrue (allows x i))) (sym f.is)
    (each-loaded (λ q. Answer items s s' q × Allowed q p.variable (λ i. IsTrue (allows x i))) f.count (l.labels r) each, order-loaded (Ordered o items) f.count (l.labels r) inner.1)

none-answers : (o : Options) (items : List Item) (s s' : State) (p : Pending) (P : ℤ → Type 0) (k : ℕ) → OneAnswers o items s s' p P (loaded k done)
unfolding EachAnswer InOrder
none-answers o items s s' p P k = (each-loaded (λ q. Answer items s s' q × Allowed q p.variable P) k done tt, order-loaded (Ordered o items) k done tt)

one-answers : (settle : Settling) (o : Options) (items : List Item) (s s' : State) (l : Lower) (p : Pending) (x : Alternative) → Tries settle o items s s' l p → (m : Option State) → narrowed_to s' p.variable (left_by x p.domain) ≡ m →
    end_of (one_tried settle (Some l) s' m) ≡ Done → OneAnswers o items s s' p (λ i. IsTrue (allows x i)) (one_tried settle (Some l) s' m)
unfolding EachAnswer InOrder end_of
one-answers settle o items s s' l p x w None e over = (tt, tt)
one-answers settle o items s s' l p x w (Some m) e over =
    let narrows : Narrows s' p.variable x m = narrowed-later s' p.variable p.domain x w.later.on w.pends.has m e in
    let on : GoesOnFrom m = narrows.later.on in
    elim (tried-is s' m (settle s' m) l on w.drains (w.settles.each s' m on.state on.may)) [
      | inl (k, is) ↦ subst (OneAnswers o items s s' p (λ i. IsTrue (allows x i))) (sym is) (none-answers o items s s' p (λ i. IsTrue (allows x i)) k)
      | inr f ↦ followed-answers settle o items s s' m l p x (then (then (settle s' m) l.drains) l.labels) w narrows f over
    ]

-- ---- all alternatives

parts : (items : List Item) (s s' r q : State) (n : ℕ) (i j : ℤ) → Answer items s s' r → Answer items s s' q → root_item r (Item.Var n) ≡ Item.Int i → root_item q (Item.Var n) ≡ Item.Int j → Parts s' r q n i j
parts items s s' r q n i j a b e f = record { first = a.later.roots; second = b.later.roots; one = e; other = f }

all-answers : (settle : Settling) (o : Options) (items : List Item) (s s' : State) (l : Lower) (p : Pending) → Tries settle o items s s' l p → picked (pending s' items) o.variable ≡ Some p → AreOut s' items →
    (xs : List Alternative) → AllAhead o.value xs → end_of (all_tried settle (Some l) s' p xs) ≡ Done → OneAnswers o items s s' p (SomeAllows xs) (all_tried settle (Some l) s' p xs)
unfolding all_tried AllAhead SomeAllows EachAnswer InOrder
all-answers settle o items s s' l p w pick out [] ahead over = (tt, tt)
all-answers settle o items s s' l p w pick out (x ∷ xs) ahead over =
    let t : Trace State = one_tried settle (Some l) s' (narrowed_to s' p.variable (left_by x p.domain)) in
    let u : Trace State = all_tried settle (Some l) s' p xs in
    let ends = both-done t u over in
    let first = one-answers settle o items s s' l p x w (narrowed_to s' p.variable (left_by x p.domain)) refl ends.0 in
    let rest = all-answers settle o items s s' l p w pick out xs ahead.1 ends.1 in (
      each-alt (λ q. Answer items s s' q × Allowed q p.variable (SomeAllows (x ∷ xs))) t u
          (each-more (λ q. Answer items s s' q × Allowed q p.variable (λ i. IsTrue (allows x i))) (λ q. Answer items s s' q × Allowed q p.variable (SomeAllows (x ∷ xs))) t (λ q h. (h.0, (h.1.0, h.1.1, inl h.1.2))) first.0)
          (each-more (λ q. Answer items s s' q × Allowed q p.variable (SomeAllows xs)) (λ q. Answer items s s' q × Allowed q p.variable (SomeAllows (x ∷ xs))) u (λ q h. (h.0, (h.1.0, h.1.1, inr h.1.2))) rest.0),
      order-alt (Ordered o items) (λ q. Answer items s s' q × Allowed q p.variable (λ i. IsTrue (allows x i))) t u first.1 rest.1 first.0 (λ r h.
          each-more (λ q. Answer items s s' q × Allowed q p.variable (SomeAllows xs)) (Ordered o items r) u (λ q k.
          stands-before o.variable o.value s' r q h.1.0 k.1.0 items p pick out (parts items s s' r q p.variable h.1.0 k.1.0 h.0 k.0 h.1.1 k.1.1) (ahead.0 h.1.0 k.1.0 h.1.2 k.1.2)) rest.0),
    )

-- ---- labelling

by-answers : (settle : Settling) (o : Options) (items : List Item) (s s' : State) (l : Lower) → Settles settle → ((r : State) → r.waiting ≡ [] → l.drains r ≡ one r) → LabelsOn o items s l → Solved items s → Later s s' →
    IsStable s' s' ⊎ (s' ≡ s) → AreOut s' items → (p : Option Pending) → picked (pending s' items) o.variable ≡ p → end_of (labelled_by settle (Some l) o s' p) ≡ Done → Answers o items s s' (labelled_by settle (Some l) o s' p)
unfolding EachAnswer InOrder
by-answers settle o items s s' l settles drains labels solved later rests out None pick over =
    ((record { later = later-itself s' later.on; none = none-pending (pending s' items) o.variable pick; settled = rests }, tt), (tt, tt))
by-answers settle o items s s' l settles drains labels solved later rests out (Some p) pick over =
    let pends : IsPending s' items p = is-pending s' items o.variable p pick in
    let t : Trace State = all_tried settle (Some l) s' p (alternatives o.value p.domain) in
    let all = all-answers settle o items s s' l p (record { settles = settles; drains = drains; labels = labels; solved = solved; later = later; pends = pends }) pick out (alternatives o.value p.domain)
    (alternatives-ahead o.value p.domain (domain_good s' p.variable p.domain later.on.state pends.has).0) over in
    (each-more (λ q. Answer items s s' q × Allowed q p.variable (SomeAllows (alternatives o.value p.domain))) (Answer items s s') t (λ q h. h.0) all.0, all.1)

-- at the lowest depth an alternative is too deep
lowest-all : (settle : Settling) (o : Options) (items : List Item) (s s' : State) (p : Pending) (xs : List Alternative) → end_of (all_tried settle None s' p xs) ≡ Done → Answers o items s s' (all_tried settle None s' p xs)
unfolding all_tried EachAnswer InOrder alt end_of
lowest-all settle o items s s' p [] over = (tt, tt)
lowest-all settle o items s s' p (x ∷ xs) over = absurd cc

lowest-answers : (settle : Settling) (o : Options) (items : List Item) (s s' : State) → Later s s' → IsStable s' s' ⊎ (s' ≡ s) → (p : Option Pending) → picked (pending s' items) o.variable ≡ p →
    end_of (labelled_by settle None o s' p) ≡ Done → Answers o items s s' (labelled_by settle None o s' p)
unfolding EachAnswer InOrder
lowest-answers settle o items s s' later rests None pick over = ((record { later = later-itself s' later.on; none = none-pending (pending s' items) o.variable pick; settled = rests }, tt), (tt, tt))
lowest-answers settle o items s s' later rests (Some p) pick over = lowest-all settle o items s s' p (alternatives o.value p.domain) over

pub at-answers : (settle : Settling) (drains : ℕ → State → Trace State) (o : Options) (items : List Item) (s : State) → Settles settle → RunsWhatWaits drains → Solved items s → AreOut s items → (d : ℕ) (s' : State) → Later s s' →
    IsStable s' s' ⊎ (s' ≡ s) → end_of (labelled_at settle drains o items d s') ≡ Done → Answers o items s s' (labelled_at settle drains o items d s')
unfolding labelled_at
at-answers settle drains o items s settles runs solved out zero s' later rests over = lowest-answers settle o items s s' later rests (picked (pending s' items) o.variable) refl over
at-answers settle drains o items s settles runs solved out (suc d) s' later rests over =
    by-answers settle o items s s' (record { drains = drains d; labels = labelled_at settle drains o items d }) settles (runs d)
    (λ r on stable ends. at-answers settle drains o items s settles runs solved out d r on (inl stable) ends) solved later rests (are-out s s' items later out) (picked (pending s' items) o.variable) refl over
