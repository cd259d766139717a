-- States that labelling comes to, behind the one in which it began.
use Rattle.std.specs.Prelude.{◌≡◌, ℕ, ℤ, IsTrue, List, [], ◌∷◌, Some, None, refl}
use Rattle.std.proofs.Common.{sym, ◌∙◌, ap, subst, inl, inr}
use Rattle.pi_terms.specs.Tree.{int}
use Rattle.pi_terms.specs.Places.{held}
use Rattle.pi_constraints.specs.declared.constraint.Item.{Item}
use Rattle.pi_constraints.specs.declared.domain.Span.{Span}
use Rattle.pi_constraints.specs.Domain.{IsDomain, has_value, values_of}
use Rattle.pi_constraints.proofs.CommonLemmas.{first_value}
use Rattle.pi_constraints.specs.Value.{Bindings}
use Rattle.pi_constraints.specs.State.{State, bound, within, bindings, domain_of, with_domain, IsState}
use Rattle.pi_constraints.proofs.StateLemmas.{held_is, held_elsewhere, same_or_not, domain_here, domain_elsewhere, domain_bindings, domain_unbound, domain_good}
use Rattle.pi_settling.specs.Roots.{root_item}
use Rattle.pi_settling.specs.Stable.{IsStable}
use Rattle.pi_settling.specs.Solves.{Solves}
use Rattle.pi_settling.specs.Choices.{Alternative, allows, left_by, with_values, narrowed_to}
use Rattle.pi_settling.proofs.RootLemmas.{Kept, root_later}
use Rattle.pi_settling.proofs.TwiceLemmas.{stable-keeps, item_by, unbound-root, later-root}
use Rattle.pi_settling.proofs.KeepLemmas.{item-comes}
use Rattle.pi_settling.proofs.UniqueLemmas.{domain_made}
use Rattle.pi_settling.proofs.SolutionLemmas.{solutions_stay}
use Rattle.pi_settling.proofs.ConfinedLemmas.{root-same}
use Rattle.pi_settling.proofs.LabelNarrows.{left_is_a_domain, narrowing_keeps_solutions, Binds, behind, root-here, root-elsewhere, root-again, left-of}
use Rattle.pi_settling.proofs.LabelKeeps.{GoesOnFrom, stable-goes_on, narrowed-goes_on}
use Rattle.pi_label_laws.proofs.RankLemmas.{HasDomain, ComesOut}

pub record Later (s r : State) : Type 0 where
  pub on : GoesOnFrom r
  pub constraints : r.constraints ≡ s.constraints
  pub kept : Kept (bindings s) (bindings r)
  pub roots : (y : Item) → root_item r (root_item s y) ≡ root_item r y
  pub comes : (n : ℕ) → HasDomain s n → ComesOut r (Item.Var n)
  pub back : (a : ℕ → ℤ) → Solves r a → Solves s a

-- ---- the state itself, and one after the other

pub root-itself : (s : State) → IsState s → (y : Item) → root_item s (root_item s y) ≡ root_item s y
root-itself s is y = root_later s s is.acyclic is.acyclic (λ n u h. h) (λ n none. item_by (bindings s) n is.acyclic (inl none)) y

pub domain-root : (s : State) (n : ℕ) (d : List Span) → domain_of s n ≡ Some d → root_item s (Item.Var n) ≡ Item.Var n
domain-root s n d has = unbound-root s n (sym (held_is s n) ∙ domain_unbound s n d has)

pub later-itself : (s : State) → GoesOnFrom s → Later s s
later-itself s g = record {
  on = g;
  constraints = refl;
  kept = λ n u h. h;
  roots = root-itself s g.state;
  comes = λ n has. inl (n, domain-root s n has.0 has.1, has);
  back = λ a h. h;
}

comes-then : (s r q : State) → Later s r → Later r q → (n : ℕ) → ComesOut r (Item.Var n) → ComesOut q (Item.Var n)
comes-then s r q l m n (inl (v, e, has)) =
    let same : root_item q (Item.Var v) ≡ root_item q (Item.Var n) = sym (ap (root_item q) e) ∙ m.roots (Item.Var n) in
    elim (m.comes v has) [
      | inl (w, f, there) ↦ inl (w, sym same ∙ f, there)
      | inr (i, f) ↦ inr (i, sym same ∙ f)
    ]
comes-then s r q l m n (inr (i, e)) = inr (i, sym (m.roots (Item.Var n)) ∙ ap (root_item q) e)

pub later-then : (s r q : State) → Later s r → Later r q → Later s q
later-then s r q l m = record {
  on = m.on;
  constraints = m.constraints ∙ l.constraints;
  kept = λ n u h. m.kept n u (l.kept n u h);
  roots = λ y. sym (m.roots (root_item s y)) ∙ (ap (root_item q) (l.roots y) ∙ m.roots y);
  comes = λ n has. comes-then s r q l m n (l.comes n has);
  back = λ a h. l.back a (m.back a h);
}

-- ---- a stable state

pub later-stable : (s r : State) → GoesOnFrom s → IsStable s r → Later s r
later-stable s r g f =
    let on : GoesOnFrom r = stable-goes_on s r g f in
    record {
      on = on;
      constraints = f.constraints;
      kept = stable-keeps s r f;
      roots = later-root s r g.state on.state f;
      comes = λ n has. elim (item-comes s r on.state f (Item.Var n) (inl (n, has.0, refl, has.1))) [
        | inl (v, d, e, there) ↦ inl (v, e, (d, there))
        | inr (i, e, b) ↦ inr (i, e)
      ];
      back = λ a h. (solutions_stay s r a g.state g.may f).1 h;
    }

-- ---- a state that an alternative leaves

-- its solutions have values that the alternative allows
pub record Narrows (s : State) (n : ℕ) (x : Alternative) (m : State) : Type 0 where
  pub later : Later s m
  pub allowed : (a : ℕ → ℤ) → Solves m a → IsTrue (allows x (a n))

bound-kept : (s : State) (n : ℕ) (d : List Span) (i : ℤ) → Binds s n d i → Kept (bindings s) (bindings (behind s n i))
bound-kept s n d i b k u e = elim (same_or_not k n) [
  | inl here ↦ absurd (let none : held (bindings s) k ≡ None = ap (held (bindings s)) here ∙ domain_unbound s n d b.has in cc)
  | inr other ↦ held_elsewhere s n (bound (int i)) k other ∙ e
]

bound-comes : (s : State) (n : ℕ) (d : List Span) (i : ℤ) → Binds s n d i → (k : ℕ) → HasDomain s k → ComesOut (behind s n i) (Item.Var k)
bound-comes s n d i b k (f, at) = elim (same_or_not k n) [
  | inl here ↦ inr (i, ap (λ (j : ℕ). root_item (behind s n i) (Item.Var j)) here ∙ root-here s n d i b)
  | inr other ↦ inl (k, root-elsewhere s n d i b k other (domain_unbound s k f at), (f, domain_elsewhere s n (bound (int i)) k other ∙ at))
]

fewer-comes : (s : State) (n : ℕ) (d e : List Span) → domain_of s n ≡ Some d → (k : ℕ) → HasDomain s k → ComesOut (with_domain s n e) (Item.Var k)
fewer-comes s n d e has k (f, at) =
    let same : root_item (with_domain s n e) (Item.Var k) ≡ Item.Var k = root-same s (with_domain s n e) (domain_bindings s n e (domain_unbound s n d has)) (Item.Var k) ∙ domain-root s k f at in
    elim (same_or_not k n) [
      | inl here ↦ inl (k, same, (e, ap (domain_of (with_domain s n e)) here ∙ domain_here s n (within e) (domain_made s n d has)))
      | inr other ↦ inl (k, same, (f, domain_elsewhere s n (within e) k other ∙ at))
    ]

some-state : (q r : State) → Some q ≡ Some r → q ≡ r
some-state q r e = cc

narrowed-by : (s : State) (n : ℕ) (d : List Span) (x : Alternative) → GoesOnFrom s → domain_of s n ≡ Some d → (vs : List ℤ) → values_of (left_by x d) ≡ vs → (m : State) → with_values s n (left_by x d) vs ≡ Some m →
    GoesOnFrom m → ((a : ℕ → ℤ) → Solves m a → Solves s a) → Later s m
narrowed-by s n d x g has [] e m same on back = absurd cc
narrowed-by s n d x g has (i ∷ []) e m same on back =
    let up : IsDomain d = (domain_good s n d g.state has).0 in
    let there : IsTrue (has_value (left_by x d) i) = first_value (left_by x d) i [] (left_is_a_domain x d up) e in
    let b : Binds s n d i = record { state = g.state; may = g.may; has = has; inside = (left-of x d i up there).0 } in
    let is : behind s n i ≡ m = some-state (behind s n i) m same in
    subst (Later s) is (record {
      on = subst GoesOnFrom (sym is) on;
      constraints = refl;
      kept = bound-kept s n d i b;
      roots = root-again s n d i b;
      comes = bound-comes s n d i b;
      back = λ a h. back a (subst (λ (q : State). Solves q a) is h);
    })
narrowed-by s n d x g has (i ∷ j ∷ rest) e m same on back =
    let is : with_domain s n (left_by x d) ≡ m = some-state (with_domain s n (left_by x d)) m same in
    let root : (y : Item) → root_item (with_domain s n (left_by x d)) y ≡ root_item s y = root-same s (with_domain s n (left_by x d)) (domain_bindings s n (left_by x d) (domain_unbound s n d has)) in
    subst (Later s) is (record {
      on = subst GoesOnFrom (sym is) on;
      constraints = refl;
      kept = λ k u h. subst (λ (c : Bindings). held c k ≡ Some u) (sym (domain_bindings s n (left_by x d) (domain_unbound s n d has))) h;
      roots = λ y. root (root_item s y) ∙ (root-itself s g.state y ∙ sym (root y));
      comes = fewer-comes s n d (left_by x d) has;
      back = λ a h. back a (subst (λ (q : State). Solves q a) is h);
    })

pub narrowed-later : (s : State) (n : ℕ) (d : List Span) (x : Alternative) → GoesOnFrom s → domain_of s n ≡ Some d → (m : State) → narrowed_to s n (left_by x d) ≡ Some m → Narrows s n x m
narrowed-later s n d x g has m e =
    let law : (a : ℕ → ℤ) → Solves m a → Solves s a × IsTrue (allows x (a n)) = λ a h. ((narrowing_keeps_solutions s n d x a g.state g.may has).0 m e).0 h in
    let on : GoesOnFrom m = narrowed-goes_on s n d x g has (values_of (left_by x d)) refl m e in
    record {
      later = narrowed-by s n d x g has (values_of (left_by x d)) refl m e on (λ a h. (law a h).0);
      allowed = λ a h. (law a h).1;
    }
