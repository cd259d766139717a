-- One round of a labelling with an objective: it comes to its end, and tells whether there is an assignment, and one.
use Rattle.std.specs.Prelude.{◌≡◌, ◌⊎◌, ℕ, zero, suc, ◌<◌, ◌≤◌, ℤ, List, [], ◌∷◌, length, All, Some, None, Contains, refl}
use Rattle.std.proofs.Common.{arith, sym, ◌∙◌, ap, subst, inl, inr}
use Rattle.pi_terms.specs.Places.{held}
use Rattle.pi_constraints.specs.declared.constraint.Item.{Item}
use Rattle.pi_constraints.specs.Domain.{IsWithinBounds}
use Rattle.pi_constraints.specs.State.{State, Variable, binding, bindings, next, domain_in, domain_of, IsState}
use Rattle.pi_constraints.specs.Value.{Bindings}
use Rattle.pi_constraints.proofs.StateLemmas.{variable, held_is}
use Rattle.pi_traces.specs.Trace.{Trace, Done, done, one, answers, end_of}
use Rattle.pi_settling.specs.Roots.{root_item, by_domain}
use Rattle.pi_settling.specs.Stable.{IsEmptied, Narrows, stays_free, stays_bound, some_stay, one_stays, IsStable}
use Rattle.pi_settling.specs.Load.{load, load_of_failure}
use Rattle.pi_settling.specs.Settled.{loaded, with_events}
use Rattle.pi_settling.specs.Solves.{Solves}
use Rattle.pi_settling.specs.SettlingLaws.{MaySettle, Settles}
use Rattle.pi_settling.specs.Options.{Options}
use Rattle.pi_settling.specs.Confined.{confined}
use Rattle.pi_settling.specs.Label.{labelling, labelled_at}
use Rattle.pi_settling.specs.Reading.{Solving}
use Rattle.pi_settling.specs.Rounds.{round}
use Rattle.pi_settling.specs.KeepLaws.{SolvesSome}
use Rattle.pi_settling.proofs.RootLemmas.{Kept, root_later}
use Rattle.pi_settling.proofs.StableLemmas.{settling_keeps_solutions}
use Rattle.pi_settling.proofs.TwiceLemmas.{item_by, unbound-root, integer-root, later-root, stable-keeps}
use Rattle.pi_settling.proofs.SolutionLemmas.{solutions_stay}
use Rattle.pi_settling.proofs.ConfinedLemmas.{confining_binds_nothing, root-same}
use Rattle.pi_settling.proofs.LabelKeeps.{end-loaded, none-followed, one-followed, no-events, GoesOnFrom, labelling_keeps_solutions}
use Rattle.pi_settling.proofs.EndLemmas.{labelling_ends}
use Rattle.pi_label_laws.specs.Made.{MayLabel}
use Rattle.pi_label_laws.specs.SolutionLaws.{RunsWhatWaits, AreTold}
use Rattle.pi_label_laws.specs.ObjectiveLaws.{IsAssignment, PostsMore}
use Rattle.pi_label_laws.proofs.RankLemmas.{ComesOut}
use Rattle.pi_label_laws.proofs.LaterLemmas.{later-itself}
use Rattle.pi_label_laws.proofs.TraceLemmas.{each-all}
use Rattle.pi_label_laws.proofs.PickLemmas.{told_values, AreOut}
use Rattle.pi_label_laws.proofs.AnswerLemmas.{Answer, Solved, at-answers}
use Rattle.pi_label_laws.proofs.BeginLemmas.{IsGood, good-out}
use Rattle.pi_label_laws.proofs.LabelledLemmas.{same-number}
use Rattle.pi_label_laws.proofs.DefaultLemmas.{confined-up, confined-down}
use Rattle.pi_label_laws.proofs.DeeperLemmas.{same-at}
use Rattle.pi_label_laws.proofs.GivesLemmas.{confined-goes_on, answer-told, answers-solved, roots-told, values-told}

abbrev pub AllGood : State → List Item → Type 0
AllGood s items = (x : Item) → Contains items x → IsGood s x

-- ---- items go on

same-kept : (s q : State) → ((n : ℕ) → held (bindings q) n ≡ held (bindings s) n) → Kept (bindings s) (bindings q)
same-kept s q same n u e = same n ∙ e

pub good-same : (s q : State) → IsState s → IsState q → next s ≤ next q → ((n : ℕ) → held (bindings q) n ≡ held (bindings s) n) → (x : Item) → IsGood s x → IsGood q x
good-same s q is is' more same x good =
    let root : root_item q (root_item s x) ≡ root_item q x =
    root_later s q is.acyclic is'.acyclic (same-kept s q same) (λ n none. item_by (bindings q) n is'.acyclic (inl (same n ∙ none))) x in
    elim good [
      | inl (v, e, l, none) ↦
          let free_there : held (bindings q) v ≡ None = same v ∙ none in
          inl (v, sym root ∙ (ap (root_item q) e ∙ unbound-root q v (sym (held_is q v) ∙ free_there)), omega (arith, l, more), free_there)
      | inr (i, e) ↦ inr (i, sym root ∙ ap (root_item q) e)
    ]

-- what an unbound variable is in the stable state
Becomes : State → ℕ → Type 0
Becomes r v = ((root_item r (Item.Var v) ≡ Item.Var v) × (held (bindings r) v ≡ None)) ⊎ ((i : ℤ) × (root_item r (Item.Var v) ≡ Item.Int i))

narrowed-becomes : (q r : State) (v : ℕ) (u w : Variable) → IsState r → Narrows q v u w → binding u ≡ None → variable r v ≡ w → Becomes r v
unfolding Becomes
narrowed-becomes q r v u w is stays_free none at = inl (unbound-root r v (ap binding at), held_is r v ∙ ap binding at)
narrowed-becomes q r v u w is (stays_bound t) none at = absurd cc
narrowed-becomes q r v u w is (some_stay d e p two all) none at = inl (unbound-root r v (ap binding at), held_is r v ∙ ap binding at)
narrowed-becomes q r v u w is (one_stays d i all) none at = inr (i, integer-root r v i is.acyclic (ap binding at))

becomes : (q r : State) (v : ℕ) → IsState r → IsStable q r → v < next q → held (bindings q) v ≡ None → Becomes r v
becomes q r v is f l none = narrowed-becomes q r v (variable q v) (variable r v) is (f.variables v l) (sym (held_is q v) ∙ none) refl

good-stable : (q r : State) → IsState q → IsState r → IsStable q r → (x : Item) → IsGood q x → IsGood r x
unfolding Becomes
good-stable q r is is' f x (inr (i, e)) = inr (i, sym (later-root q r is is' f x) ∙ ap (root_item r) e)
good-stable q r is is' f x (inl (v, e, l, none)) =
    let root : root_item r x ≡ root_item r (Item.Var v) = sym (later-root q r is is' f x) ∙ ap (root_item r) e in
    elim (becomes q r v is' f l none) [
      | inl (here, still) ↦ inl (v, root ∙ here, (let many : next r ≡ next q = f.count in omega (arith, l)), still)
      | inr (i, here) ↦ inr (i, root ∙ here)
    ]

-- an item that comes to a variable in the stable state came to it before
variable-before : (q r : State) → IsState q → IsState r → IsStable q r → (x : Item) (v : ℕ) → IsGood q x → root_item r x ≡ Item.Var v → root_item q x ≡ Item.Var v
unfolding Becomes
variable-before q r is is' f x v (inr (i, e)) at = absurd (let there : root_item r x ≡ Item.Int i = sym (later-root q r is is' f x) ∙ ap (root_item r) e in cc)
variable-before q r is is' f x v (inl (w, e, l, none)) at =
    let root : root_item r x ≡ root_item r (Item.Var w) = sym (later-root q r is is' f x) ∙ ap (root_item r) e in
    elim (becomes q r w is' f l none) [
      | inl (here, still) ↦ e ∙ (sym here ∙ (sym root ∙ at))
      | inr (i, here) ↦ absurd (let there : root_item r x ≡ Item.Int i = root ∙ here in cc)
    ]

-- ---- values within the bounds

-- of an item that comes out as a variable, in a solution
pub out-bounded : (s : State) (a : ℕ → ℤ) (x : Item) (v : ℕ) → Solves s a → ComesOut s x → root_item s x ≡ Item.Var v → IsWithinBounds (a v)
out-bounded s a x v h (inl (w, e, dom)) at = h.bounded (Item.Var v) (by_domain v dom.0 refl (ap (domain_of s) (same-number v w (sym at ∙ e)) ∙ dom.1))
out-bounded s a x v h (inr (i, e)) at = absurd cc

pub root-confined : (s : State) (items : List Item) (y : Item) → root_item (confined s items) y ≡ root_item s y
root-confined s items y = root-same s (confined s items) (confining_binds_nothing s items) y

-- solutions of what is confined before are solutions of what is confined in the stable state
solves-after : (q r : State) (items : List Item) (a : ℕ → ℤ) → IsState q → IsState r → MaySettle q → IsStable q r → AllGood q items → Solves (confined q items) a → Solves (confined r items) a
solves-after q r items a is is' may f good h =
    confined-up items r a ((solutions_stay q r a is may f).0 (confined-down items q a h))
    (λ x at v e.
    out-bounded (confined q items) a x v h (good-out q items good x at) (root-confined q items x ∙ variable-before q r is is' f x v (good x at) e))

variable-bounded : (q r : State) (items : List Item) (a : ℕ → ℤ) (x : Item) (v : ℕ) (u w : Variable) → IsState q → IsState r → IsStable q r → Solves q a → Solves (confined r items) a → ComesOut (confined r items) x → root_item q x ≡ Item.Var v →
    held (bindings q) v ≡ None → variable q v ≡ u → variable r v ≡ w → Narrows q v u w → IsWithinBounds (a v)
variable-bounded q r items a x v u w is is' f h k out e none at there stays_free =
    let root : root_item r x ≡ Item.Var v = sym (later-root q r is is' f x) ∙ (ap (root_item r) e ∙ unbound-root r v (ap binding there)) in
    out-bounded (confined r items) a x v k out (root-confined r items x ∙ root)
variable-bounded q r items a x v u w is is' f h k out e none at there (stays_bound t) = absurd (let full : held (bindings q) v ≡ Some t = held_is q v ∙ ap binding at in cc)
variable-bounded q r items a x v u w is is' f h k out e none at there (some_stay d c p two all) = h.bounded (Item.Var v) (by_domain v d refl (ap domain_in at))
variable-bounded q r items a x v u w is is' f h k out e none at there (one_stays d i all) = h.bounded (Item.Var v) (by_domain v d refl (ap domain_in at))

-- and back
solves-before : (q r : State) (items : List Item) (a : ℕ → ℤ) → IsState q → IsState r → MaySettle q → IsStable q r → AllGood q items → AllGood r items → Solves (confined r items) a → Solves (confined q items) a
solves-before q r items a is is' may f good after k =
    let h : Solves q a = (solutions_stay q r a is may f).1 (confined-down items r a k) in
    confined-up items q a h (λ x at v e. elim (good x at) [
      | inl (w, g, l, none) ↦
          let same : w ≡ v = same-number w v (sym g ∙ e) in
          subst (λ (n : ℕ). IsWithinBounds (a n)) same
          (variable-bounded q r items a x w (variable q w) (variable r w) is is' f h k (good-out r items after x at) g none refl refl (f.variables w l))
      | inr (i, g) ↦ absurd cc
    ])

-- ---- traces

pub answers-loaded : (k : ℕ) (t : Trace State) → answers (loaded k t) ≡ answers t
unfolding answers loaded
answers-loaded zero t = refl
answers-loaded (suc k) t = refl

-- ---- one round

-- what a round comes to that leaves the assignments of which this is so
pub record IsRound (s : State) (items : List Item) (leaves : List ℤ → Type 0) (t : Trace State) : Type 0 where
  pub ends : end_of t ≡ Done
  pub none : answers t ≡ [] → (values : List ℤ) → IsAssignment s items values → leaves values → ⊥
  pub first : (x : State) (rest : List State) → answers t ≡ x ∷ rest →
      (values : List ℤ) × IsAssignment s items values × leaves values × AreTold items x values × IsState x × Kept (bindings s) (bindings x)

-- a round from some depth on
pub record Round (p : Solving) (s q : State) (leaves : List ℤ → Type 0) : Type 0 where
  pub depth : ℕ
  pub trace : Trace State
  pub is : (d : ℕ) → depth ≤ d → round p d (p.settle s q) ≡ trace
  pub round_is : IsRound s p.items leaves trace

emptied-round : (p : Solving) (s q : State) (leaves : List ℤ → Type 0) → PostsMore s q p.items leaves → IsEmptied q → p.settle s q ≡ loaded (load_of_failure s q) done → Round p s q leaves
unfolding answers end_of
emptied-round p s q leaves m e is =
    let k : ℕ = load_of_failure s q in
    record {
      depth = 0;
      trace = loaded k done;
      is = λ d l. ap (λ (u : Trace State). round p d u) is ∙ none-followed k (p.drains d) (labelling p.settle p.drains p.chosen_options p.items d);
      round_is = record {
        ends = end-loaded k done;
        none = λ none values has left.
            let there : IsAssignment q p.items values = (m.kept values).1 (has, left) in
            e.none _ (settling_keeps_solutions q there.assignment (confined-down p.items q there.assignment there.solves) e.item e.counts);
        first = λ x rest same. absurd (let none : answers (loaded k done) ≡ [] = answers-loaded k done in cc);
      };
    }

settled-round : (p : Solving) (s q r : State) (leaves : List ℤ → Type 0) → Settles p.settle → RunsWhatWaits p.drains → IsState s → AllGood s p.items → PostsMore s q p.items leaves → IsStable q r →
    p.settle s q ≡ loaded (load s q r) (one (with_events s r)) → Round p s q leaves
settled-round p s q r leaves settles runs is good m f e =
    let items : List Item = p.items in
    let o : Options = p.chosen_options in
    let may : MayLabel r items = m.may_label r f in
    let good_q : AllGood q items = λ x at. good-same s q is m.state m.more m.same x (good x at) in
    let good_r : AllGood r items = λ x at. good-stable q r m.state may.state f x (good_q x at) in
    let c : State = confined r items in
    let g : GoesOnFrom c = confined-goes_on r items may in
    let out : AreOut c items = good-out r items good_r in
    let solved : Solved items c = answers-solved r items may out in
    let ending = labelling_ends p.settle p.drains o items settles runs c g.state g.may g.agents g.waiting in
    let t : Trace State = labelled_at p.settle p.drains o items ending.0 c in
    let found = at-answers p.settle p.drains o items c settles runs solved out ending.0 c (later-itself c g) (inr refl) ending.1 in
    let each : All (Answer items c c) (answers t) = each-all (Answer items c c) t found.0 in
    let k : ℕ = load s q r in
    let first_of : (x : State) (rest : List State) → answers t ≡ x ∷ rest → Answer items c c x = λ x rest same. first-answer (Answer items c c) (answers t) x rest each same in
    record {
      depth = ending.0;
      trace = loaded k t;
      is = λ d l.
          ap (λ (u : Trace State). round p d u) (e ∙ ap (λ (x : State). loaded k (one x)) (no-events s r may.agents may.waiting))
          ∙ (one-followed k r (p.drains d) (labelling p.settle p.drains o items d) (runs d r may.waiting) ∙ ap (loaded k) (same-at p.settle p.drains o items settles runs ending.0 d c g ending.1 l));
      round_is = record {
        ends = end-loaded k t ∙ ending.1;
        none = λ none values has left.
            let there : IsAssignment q items values = (m.kept values).1 (has, left) in
            let a : ℕ → ℤ = there.assignment in
            let some : SolvesSome t a = (labelling_keeps_solutions p.settle p.drains o items settles runs c g.state g.may g.agents g.waiting ending.0 ending.1 a).0 (solves-after q r items a m.state may.state m.settles f good_q there.solves) in
            not-empty (answers t) some.0 (sym (answers-loaded k t) ∙ none) some.1;
        first = λ x rest same.
            let ans : Answer items c c x = first_of x rest (sym (answers-loaded k t) ∙ same) in
            let told = answer-told c x items out ans in
            let solution = solved x ans in
            let a : ℕ → ℤ = solution.0 in
            let values : List ℤ = told_values x items in
            let before : Solves (confined q items) a = solves-before q r items a m.state may.state m.settles f good_q good_r (ans.later.back a solution.1) in
            let there : IsAssignment q items values = record { assignment = a; solves = before; are = values-told x a items solution.1 told } in
            let both = (m.kept values).0 there in (
              values,
              both.0,
              both.1,
              roots-told x items told,
              ans.later.on.state,
              λ n u h. ans.later.kept n u (subst (λ (b : Bindings). held b n ≡ Some u) (sym (confining_binds_nothing r items)) (stable-keeps q r f n u (m.same n ∙ h))),
            );
      };
    }
  where
    first-answer : (P : State → Type 0) (xs : List State) (x : State) (rest : List State) → All P xs → xs ≡ x ∷ rest → P x
    first-answer P xs x rest all same =
        let every : All P (x ∷ rest) = subst (All P) same all in
        every 0 x (omega arith)

    not-empty : (xs : List State) (x : State) → xs ≡ [] → Contains xs x → ⊥
    not-empty xs x none at = let l : at.0 < length xs = at.1 in let zero_long : length xs ≡ 0 = ap length none in omega arith

pub round-of : (p : Solving) (s q : State) (leaves : List ℤ → Type 0) → Settles p.settle → RunsWhatWaits p.drains → IsState s → AllGood s p.items → PostsMore s q p.items leaves → Round p s q leaves
round-of p s q leaves settles runs is good m = elim (settles.each s q m.state m.settles) [
  | inl (e, same) ↦ emptied-round p s q leaves m e same
  | inr (r, f, same) ↦ settled-round p s q r leaves settles runs is good m f same
]
