-- Labelling loses no solution and adds none.
use Rattle.std.specs.Prelude.{◌≡◌, ◌⊎◌, ℕ, zero, suc, ◌<◌, ◌≤◌, nat_lt, ℤ, pos, Bool, true, false, cond, IsTrue, List, [], ◌∷◌, ◌++◌, length, get_or, Option, Some, None, ⊤, refl}
use Rattle.std.specs.List.{cons_option, last_or}
use Rattle.std.proofs.Common.{arith, sym, ◌∙◌, ap, subst, inl, inr}
use Rattle.pi_terms.specs.Tree.{int}
use Rattle.pi_constraints.specs.declared.constraint.Item.{Item}
use Rattle.pi_constraints.specs.declared.domain.Span.{Span}
use Rattle.pi_constraints.specs.Domain.{IsDomain, has_value, values_of, size_of}
use Rattle.pi_constraints.proofs.CommonLemmas.{first_value, two_values}
use Rattle.pi_traces.specs.Trace.{Trace, end, note, ans, Done, Raise, Load, done, one, alt, then, answers, end_of}
use Rattle.pi_traces.proofs.TraceLemmas.{alt-done}
use Rattle.pi_constraints.specs.Value.{IsAcyclic}
use Rattle.pi_constraints.specs.State.{State, Agent, within, bound, bindings, domain_of, with_waiting, with_domain, IsState}
use Rattle.pi_constraints.specs.declared.event.Event.{Event}
use Rattle.pi_constraints.specs.declared.event.Activation.{Activation}
use Rattle.pi_constraints.proofs.StateLemmas.{same_or_not, domain_here, domain_elsewhere, domain_bindings, domain_unbound, domain_good, IsState-changed}
use Rattle.pi_settling.specs.Roots.{root_item, domain_or_all, given, by_domain}
use Rattle.pi_settling.specs.Stable.{IsEmptied, IsStable}
use Rattle.pi_settling.specs.Events.{events_between}
use Rattle.pi_settling.specs.Answers.{activations_from, activations}
use Rattle.pi_settling.specs.Load.{load, load_of_failure}
use Rattle.pi_settling.specs.Settled.{loaded, with_events, IsSettled}
use Rattle.pi_settling.specs.Solves.{Solves}
use Rattle.pi_settling.specs.SettlingLaws.{MaySettle, Settles}
use Rattle.pi_settling.proofs.StableLemmas.{settling_keeps_solutions}
use Rattle.pi_settling.proofs.TwiceLemmas.{has_in}
use Rattle.pi_settling.proofs.UniqueLemmas.{domain_made}
use Rattle.pi_settling.proofs.KeepLemmas.{stable_is_a_state, stable_may_settle}
use Rattle.pi_settling.proofs.SolutionLemmas.{solutions_stay}
use Rattle.pi_settling.specs.Options.{VariableWord, forward, backward, ff, Options}
use Rattle.pi_settling.specs.Choices.{Pending, pending_with, pending_at, pending, smallest, picked, Alternative, is_value, allows, alternatives, left_by, with_values, narrowed_to}
use Rattle.pi_settling.specs.Label.{Settling, Lower, one_tried, all_tried, labelled_by, labelled_at}
use Rattle.pi_settling.specs.SolutionLaws.{RunsWhatWaits}
use Rattle.pi_settling.specs.KeepLaws.{SolvesSome, LabellingKeepsSolutions}
use Rattle.pi_settling.proofs.ChoiceLemmas.{alternatives_part_the_domain}
use Rattle.pi_settling.proofs.ConfinedLemmas.{root-same}
use Rattle.pi_settling.proofs.LabelNarrows.{left_is_a_domain, narrowing_keeps_solutions, Binds, behind, binds-state, root-here, root-elsewhere, root-again, bounds-here, left-of}

-- ---- the answers of traces

-- some answer has the solution, along the trace
unfoldable pub Told : Trace State → (ℕ → ℤ) → Type 0
Told (end e) a = ⊥
Told (note n t) a = Told t a
Told (ans r t) a = Solves r a ⊎ Told t a

told-here : (t : Trace State) (a : ℕ → ℤ) → Told t a → SolvesSome t a
unfolding Told answers
told-here (end e) a h = absurd h
told-here (note n t) a h = told-here t a h
told-here (ans r t) a (inl h) = (r, (0, omega arith, refl), h)
told-here (ans r t) a (inr h) = let there = told-here t a h in (there.0, (suc there.1.0, omega (arith, there.1.1), there.1.2), there.2)

pub told-there : (t : Trace State) (a : ℕ → ℤ) (r : State) (k : ℕ) → k < length (answers t) → get_or (answers t) k r ≡ r → Solves r a → Told t a
unfolding Told answers
told-there (end e) a r k l e' h = absurd (omega arith)
told-there (note n t) a r k l e h = told-there t a r k l e h
told-there (ans q t) a r zero l e h = inl (subst (λ (x : State). Solves x a) (sym e) h)
told-there (ans q t) a r (suc k) l e h = inr (told-there t a r k (omega arith) e h)

pub both-done : (t u : Trace State) → end_of (alt t u) ≡ Done → (end_of t ≡ Done) × (end_of u ≡ Done)
unfolding alt end_of
both-done (end Done) u e = (refl, e)
both-done (end (Raise ball)) u e = absurd cc
both-done (end x) u e = absurd cc
both-done (note n t) u e = both-done t u e
both-done (ans r t) u e = both-done t u e

told-first : (t u : Trace State) (a : ℕ → ℤ) → Told t a → Told (alt t u) a
unfolding Told alt
told-first (end e) u a h = absurd h
told-first (note n t) u a h = told-first t u a h
told-first (ans r t) u a (inl h) = inl h
told-first (ans r t) u a (inr h) = inr (told-first t u a h)

told-second : (t u : Trace State) (a : ℕ → ℤ) → end_of t ≡ Done → Told u a → Told (alt t u) a
unfolding Told alt end_of
told-second (end Done) u a e h = h
told-second (end x) u a e h = absurd cc
told-second (note n t) u a e h = told-second t u a e h
told-second (ans r t) u a e h = inr (told-second t u a e h)

pub told-parts : (t u : Trace State) (a : ℕ → ℤ) → Told (alt t u) a → Told t a ⊎ Told u a
unfolding Told alt
told-parts (end Done) u a h = inr h
told-parts (end e) u a h = absurd h
told-parts (note n t) u a h = told-parts t u a h
told-parts (ans r t) u a (inl h) = inl (inl h)
told-parts (ans r t) u a (inr h) = elim (told-parts t u a h) [ inl x ↦ inl (inr x) | inr y ↦ inr y ]

told-loaded : (k : ℕ) (t : Trace State) (a : ℕ → ℤ) → Told (loaded k t) a ≡ Told t a
unfolding Told loaded
told-loaded zero t a = refl
told-loaded (suc k) t a = refl

pub end-loaded : (k : ℕ) (t : Trace State) → end_of (loaded k t) ≡ end_of t
unfolding end_of loaded
end-loaded zero t = refl
end-loaded (suc k) t = refl

-- what follows no answer, and one
pub none-followed : (k : ℕ) (f g : State → Trace State) → then (then (loaded k done) f) g ≡ loaded k done
unfolding then loaded
none-followed zero f g = refl
none-followed (suc k) f g = refl

pub one-followed : (k : ℕ) (r : State) (f g : State → Trace State) → f r ≡ one r → then (then (loaded k (one r)) f) g ≡ loaded k (g r)
unfolding then alt loaded
one-followed zero r f g e = ap (λ (t : Trace State). then (alt t done) g) e ∙ alt-done (g r)
one-followed (suc k) r f g e = ap (note (Load (suc k))) (ap (λ (t : Trace State). then (alt t done) g) e ∙ alt-done (g r))

-- ---- states without agents

pub record GoesOnFrom (s : State) : Type 0 where
  pub state : IsState s
  pub may : MaySettle s
  pub agents : s.agents ≡ []
  pub waiting : s.waiting ≡ []

pub none-woken : (s : State) (es : List Event) → s.agents ≡ [] → activations s es ≡ []
unfolding activations activations_from
none-woken s [] none = refl
none-woken s (e ∷ es) none =
    ap (λ (list : List Agent). activations_from (bindings s) e 0 list ++ activations s es) none ∙ none-woken s es none

pub no-events : (before r : State) → r.agents ≡ [] → r.waiting ≡ [] → with_events before r ≡ r
no-events before r agents waiting =
    ap (with_waiting r) (ap (λ (list : List Activation). r.waiting ++ list) (none-woken r (events_between before r) agents) ∙ (ap (λ (list : List Activation). list ++ []) waiting ∙ sym waiting))

pub stable-goes_on : (s r : State) → GoesOnFrom s → IsStable s r → GoesOnFrom r
stable-goes_on s r g f = record {
  state = stable_is_a_state s r g.state f;
  may = stable_may_settle s r g.state g.may f;
  agents = f.agents ∙ g.agents;
  waiting = f.waiting ∙ g.waiting;
}

-- ---- a state that is narrowed

fewer-state : (s : State) (n : ℕ) (d e : List Span) → IsState s → domain_of s n ≡ Some d → IsDomain e → 2 ≤ size_of e → IsState (with_domain s n e)
fewer-state s n d e is has up two =
    IsState-changed s n (within e) is (domain_made s n d has) (up, two) (subst IsAcyclic (sym (domain_bindings s n e (domain_unbound s n d has))) is.acyclic)

fewer-settles : (s : State) (n : ℕ) (d e : List Span) → MaySettle s → domain_of s n ≡ Some d → MaySettle (with_domain s n e)
fewer-settles s n d e may has c y posted at =
    let same : root_item (with_domain s n e) y ≡ root_item s y = root-same s (with_domain s n e) (domain_bindings s n e (domain_unbound s n d has)) y in
    elim (may c y posted at) [
      | inl (k, f, is, there) ↦ elim (same_or_not k n) [
        | inl here ↦ inl (n, e, same ∙ (is ∙ ap Item.Var here), domain_here s n (within e) (domain_made s n d has))
        | inr other ↦ inl (k, f, same ∙ is, domain_elsewhere s n (within e) k other ∙ there)
      ]
      | inr (i, is, b) ↦ inr (i, same ∙ is, b)
    ]

bound-settles : (s : State) (n : ℕ) (d : List Span) (i : ℤ) → Binds s n d i → MaySettle (behind s n i)
bound-settles s n d i b c y posted at = elim (b.may c y posted at) [
  | inl (k, f, is, there) ↦ elim (same_or_not k n) [
    | inl here ↦ inr (i, sym (root-again s n d i b y) ∙ (ap (root_item (behind s n i)) (is ∙ ap Item.Var here) ∙ root-here s n d i b), bounds-here s n d i b)
    | inr other ↦
        inl (k, f, sym (root-again s n d i b y) ∙ (ap (root_item (behind s n i)) is ∙ root-elsewhere s n d i b k other (domain_unbound s k f there)), domain_elsewhere s n (bound (int i)) k other ∙ there)
  ]
  | inr (j, is, bounds) ↦ inr (j, sym (root-again s n d i b y) ∙ ap (root_item (behind s n i)) is, bounds)
]

some-state : (q r : State) → Some q ≡ Some r → q ≡ r
some-state q r e = cc

pub narrowed-goes_on : (s : State) (n : ℕ) (d : List Span) (x : Alternative) → GoesOnFrom s → domain_of s n ≡ Some d → (vs : List ℤ) → values_of (left_by x d) ≡ vs → (r : State) →
    with_values s n (left_by x d) vs ≡ Some r → GoesOnFrom r
narrowed-goes_on s n d x g has [] e r same = absurd cc
narrowed-goes_on s n d x g has (i ∷ []) e r same =
    let up : IsDomain d = (domain_good s n d g.state has).0 in
    let there : IsTrue (has_value (left_by x d) i) = first_value (left_by x d) i [] (left_is_a_domain x d up) e in
    let b : Binds s n d i = record { state = g.state; may = g.may; has = has; inside = (left-of x d i up there).0 } in
    subst GoesOnFrom (some-state (behind s n i) r same) (record { state = binds-state s n d i b; may = bound-settles s n d i b; agents = g.agents; waiting = g.waiting })
narrowed-goes_on s n d x g has (i ∷ j ∷ rest) e r same =
    let up : IsDomain d = (domain_good s n d g.state has).0 in
    subst GoesOnFrom (some-state (with_domain s n (left_by x d)) r same) (record {
      state = fewer-state s n d (left_by x d) g.state has (left_is_a_domain x d up) (two_values (left_by x d) i j rest e);
      may = fewer-settles s n d (left_by x d) g.may has;
      agents = g.agents;
      waiting = g.waiting;
    })

-- ---- one alternative

-- what labelling does behind a state has just its solutions
abbrev pub Keeps : State → Trace State → Type 0
Keeps s t = end_of t ≡ Done → (a : ℕ → ℤ) → (Solves s a → Told t a) × (Told t a → Solves s a)

emptied-unsolved : (s : State) (a : ℕ → ℤ) → IsEmptied s → Solves s a → ⊥
emptied-unsolved s a e h = e.none _ (settling_keeps_solutions s a h e.item e.counts)

keeps-same : (s : State) (t u : Trace State) → t ≡ u → Keeps s u → Keeps s t
keeps-same s t u e h = subst (Keeps s) (sym e) h

none-keeps : (s : State) (k : ℕ) → IsEmptied s → Keeps s (loaded k done)
unfolding Told
none-keeps s k e over a = (λ h. absurd (emptied-unsolved s a e h), λ told. absurd (subst (λ (X : Type 0). X) (told-loaded k done a) told))

loaded-keeps : (s : State) (k : ℕ) (t : Trace State) → Keeps s t → Keeps s (loaded k t)
loaded-keeps s k t h over a =
    let inner = h (sym (end-loaded k t) ∙ over) a in
    (λ x. subst (λ (X : Type 0). X) (sym (told-loaded k t a)) (inner.0 x), λ told. inner.1 (subst (λ (X : Type 0). X) (told-loaded k t a) told))

-- through the solutions of the stable state
through-stable : (s r : State) (t : Trace State) → GoesOnFrom s → IsStable s r → Keeps r t → Keeps s t
through-stable s r t g f h over a =
    let same = solutions_stay s r a g.state g.may f in
    let inner = h over a in
    (λ x. inner.0 (same.0 x), λ told. same.1 (inner.1 told))

pub tried-keeps : (before s : State) (t : Trace State) (l : Lower) → GoesOnFrom s → ((r : State) → r.waiting ≡ [] → l.drains r ≡ one r) → ((r : State) → GoesOnFrom r → Keeps r (l.labels r)) →
    IsSettled before s t → Keeps s (then (then t l.drains) l.labels)
tried-keeps before s t l g drains labels (inl (e, is)) =
    keeps-same s (then (then t l.drains) l.labels) (loaded (load_of_failure before s) done)
    (ap (λ (u : Trace State). then (then u l.drains) l.labels) is ∙ none-followed (load_of_failure before s) l.drains l.labels) (none-keeps s (load_of_failure before s) e)
tried-keeps before s t l g drains labels (inr (r, f, is)) =
    let on : GoesOnFrom r = stable-goes_on s r g f in
    keeps-same s (then (then t l.drains) l.labels) (loaded (load before s r) (l.labels r))
    (ap (λ (u : Trace State). then (then u l.drains) l.labels) (is ∙ ap (λ (x : State). loaded (load before s r) (one x)) (no-events before r on.agents on.waiting))
    ∙ one-followed (load before s r) r l.drains l.labels (drains r on.waiting))
    (loaded-keeps s (load before s r) (l.labels r) (through-stable s r (l.labels r) g f (labels r on)))

-- an alternative's trace has those solutions whose value it allows
abbrev KeepsAllowed : State → ℕ → Alternative → Trace State → Type 0
KeepsAllowed s n x t = end_of t ≡ Done → (a : ℕ → ℤ) → (Solves s a → IsTrue (allows x (a n)) → Told t a) × (Told t a → Solves s a)

one-keeps : (settle : Settling) → Settles settle → (l : Lower) → ((r : State) → r.waiting ≡ [] → l.drains r ≡ one r) → ((r : State) → GoesOnFrom r → Keeps r (l.labels r)) →
    (s : State) (n : ℕ) (d : List Span) (x : Alternative) → GoesOnFrom s → domain_of s n ≡ Some d → (o : Option State) → narrowed_to s n (left_by x d) ≡ o →
    KeepsAllowed s n x (one_tried settle (Some l) s o)
unfolding Told end_of
one-keeps settle settles l drains labels s n d x g has None e over a =
    let law = narrowing_keeps_solutions s n d x a g.state g.may has in
    (λ h k. absurd (law.1 e h k), λ told. absurd told)
one-keeps settle settles l drains labels s n d x g has (Some m) e over a =
    let law = (narrowing_keeps_solutions s n d x a g.state g.may has).0 m e in
    let on : GoesOnFrom m = narrowed-goes_on s n d x g has (values_of (left_by x d)) refl m e in
    let inner = tried-keeps s m (settle s m) l on drains labels (settles.each s m on.state on.may) over a in
    (λ h k. inner.0 (law.1 (h, k)), λ told. (law.0 (inner.1 told)).0)

-- ---- all alternatives

unfoldable pub SomeAllows : List Alternative → ℤ → Type 0
SomeAllows [] i = ⊥
SomeAllows (x ∷ xs) i = IsTrue (allows x i) ⊎ SomeAllows xs i

at-place-allows : (xs : List Alternative) (i : ℤ) (k : ℕ) → k < length xs → IsTrue (allows (get_or xs k (is_value (pos 0))) i) → SomeAllows xs i
unfolding SomeAllows
at-place-allows [] i k l h = absurd (omega arith)
at-place-allows (x ∷ xs) i zero l h = inl h
at-place-allows (x ∷ xs) i (suc k) l h = inr (at-place-allows xs i k (omega arith) h)

pub all-keep : (settle : Settling) → Settles settle → (l : Lower) → ((r : State) → r.waiting ≡ [] → l.drains r ≡ one r) → ((r : State) → GoesOnFrom r → Keeps r (l.labels r)) →
    (s : State) (p : Pending) → GoesOnFrom s → domain_of s p.variable ≡ Some p.domain → (xs : List Alternative) → end_of (all_tried settle (Some l) s p xs) ≡ Done → (a : ℕ → ℤ) →
    (Solves s a → SomeAllows xs (a p.variable) → Told (all_tried settle (Some l) s p xs) a) × (Told (all_tried settle (Some l) s p xs) a → Solves s a)
unfolding all_tried SomeAllows Told
all-keep settle settles l drains labels s p g has [] over a = (λ h some. absurd some, λ told. absurd told)
all-keep settle settles l drains labels s p g has (x ∷ xs) over a =
    let t : Trace State = one_tried settle (Some l) s (narrowed_to s p.variable (left_by x p.domain)) in
    let u : Trace State = all_tried settle (Some l) s p xs in
    let ends = both-done t u over in
    let first = one-keeps settle settles l drains labels s p.variable p.domain x g has (narrowed_to s p.variable (left_by x p.domain)) refl ends.0 a in
    let rest = all-keep settle settles l drains labels s p g has xs ends.1 a in (
      λ h some. elim some [ inl here ↦ told-first t u a (first.0 h here) | inr later ↦ told-second t u a ends.0 (rest.0 h later) ],
      λ told. elim (told-parts t u a told) [ inl here ↦ first.1 here | inr later ↦ rest.1 later ],
    )

-- ---- which variable is picked

-- a pending variable has its domain
abbrev pub HasItsDomain : State → Pending → Type 0
HasItsDomain s p = domain_of s p.variable ≡ Some p.domain

unfoldable pub AllHave : State → List Pending → Type 0
AllHave s [] = ⊤
AllHave s (p ∷ ps) = HasItsDomain s p × AllHave s ps

abbrev pub MayHave : State → Option Pending → Type 0
MayHave s None = ⊤
MayHave s (Some p) = HasItsDomain s p

with-has : (s : State) (n : ℕ) (o : Option (List Span)) → domain_of s n ≡ o → MayHave s (pending_with n o)
with-has s n None e = tt
with-has s n (Some d) e = e

at-has : (s : State) (x : Item) → MayHave s (pending_at s x)
at-has s (Item.Var n) = with-has s n (domain_of s n) refl
at-has s (Item.Int i) = tt

option-have : (s : State) (o : Option Pending) (ps : List Pending) → MayHave s o → AllHave s ps → AllHave s (cons_option o ps)
unfolding AllHave
option-have s None ps h rest = rest
option-have s (Some p) ps h rest = (h, rest)

pub all-have : (s : State) (items : List Item) → AllHave s (pending s items)
unfolding AllHave
all-have s [] = tt
all-have s (x ∷ items) = option-have s (pending_at s (root_item s x)) (pending s items) (at-has s (root_item s x)) (all-have s items)

last-has : (s : State) (p : Pending) (ps : List Pending) → HasItsDomain s p → AllHave s ps → MayHave s (last_or (Some p) ps)
unfolding AllHave
last-has s p [] h rest = h
last-has s p (q ∷ ps) h rest = last-has s q ps rest.0 rest.1

chosen-has : (s : State) (b : Bool) (p q : Pending) → HasItsDomain s p → HasItsDomain s q → HasItsDomain s (cond b q p)
chosen-has s true p q h k = k
chosen-has s false p q h k = h

smallest-has : (s : State) (p : Pending) (ps : List Pending) → HasItsDomain s p → AllHave s ps → HasItsDomain s (smallest p ps)
unfolding AllHave smallest
smallest-has s p [] h rest = h
smallest-has s p (q ∷ ps) h rest =
    let less : Bool = nat_lt (size_of q.domain) (size_of p.domain) in
    smallest-has s (cond less q p) ps (chosen-has s less p q h rest.0) rest.1

pub picked-has : (s : State) (ps : List Pending) (w : VariableWord) → AllHave s ps → MayHave s (picked ps w)
unfolding AllHave
picked-has s [] w h = tt
picked-has s (p ∷ ps) forward h = h.0
picked-has s (p ∷ ps) backward h = last-has s p ps h.0 h.1
picked-has s (p ∷ ps) ff h = smallest-has s p ps h.0 h.1

-- ---- labelling

-- what the alternatives of a state do
abbrev AllKeep : Settling → Option Lower → State → Type 0
AllKeep settle below s = (p : Pending) → HasItsDomain s p → (xs : List Alternative) → end_of (all_tried settle below s p xs) ≡ Done → (a : ℕ → ℤ) →
    (Solves s a → SomeAllows xs (a p.variable) → Told (all_tried settle below s p xs) a) × (Told (all_tried settle below s p xs) a → Solves s a)

by-keeps : (settle : Settling) (below : Option Lower) (o : Options) (s : State) → IsState s → AllKeep settle below s → (p : Option Pending) → MayHave s p → Keeps s (labelled_by settle below o s p)
unfolding Told
by-keeps settle below o s is keep None has over a = (λ h. inl h, λ told. elim told [ inl h ↦ h | inr none ↦ absurd none ])
by-keeps settle below o s is keep (Some p) has over a =
    let all = keep p has (alternatives o.value p.domain) over a in (
      λ h.
          let inside : IsTrue (has_value p.domain (a p.variable)) = has_in (given s (Item.Var p.variable)) p.domain (a p.variable) (ap domain_or_all has) (h.values (Item.Var p.variable) (by_domain p.variable p.domain refl has)) in
          let allowed = alternatives_part_the_domain o.value p.domain (a p.variable) (domain_good s p.variable p.domain is has).0 inside in
          all.0 h (at-place-allows (alternatives o.value p.domain) (a p.variable) allowed.place allowed.inside allowed.does),
      all.1,
    )

-- at the lowest depth an alternative is too deep
lowest-keep : (settle : Settling) (s : State) → AllKeep settle None s
unfolding all_tried SomeAllows Told alt end_of
lowest-keep settle s p has [] over a = (λ h some. absurd some, λ told. absurd told)
lowest-keep settle s p has (x ∷ xs) over a = absurd cc

pub at-keeps : (settle : Settling) (drains : ℕ → State → Trace State) (o : Options) (items : List Item) → Settles settle → RunsWhatWaits drains → (d : ℕ) (s : State) → GoesOnFrom s →
    Keeps s (labelled_at settle drains o items d s)
unfolding labelled_at
at-keeps settle drains o items settles runs zero s g = by-keeps settle None o s g.state (lowest-keep settle s) (picked (pending s items) o.variable) (picked-has s (pending s items) o.variable (all-have s items))
at-keeps settle drains o items settles runs (suc d) s g =
    let l : Lower = record { drains = drains d; labels = labelled_at settle drains o items d } in
    by-keeps settle (Some l) o s g.state (λ p has xs. all-keep settle settles l (runs d) (λ r on. at-keeps settle drains o items settles runs d r on) s p g has xs)
    (picked (pending s items) o.variable) (picked-has s (pending s items) o.variable (all-have s items))

pub labelling_keeps_solutions : LabellingKeepsSolutions
labelling_keeps_solutions settle drains o items settles runs s is may agents waiting d over a =
    let t : Trace State = labelled_at settle drains o items d s in
    let keeps = at-keeps settle drains o items settles runs d s (record { state = is; may = may; agents = agents; waiting = waiting }) over a in
    (λ h. told-here t a (keeps.0 h), λ some. keeps.1 (told-there t a some.0 some.1.0 some.1.1 some.1.2 some.2))
