-- Constraints of which each may be had, and items of which each has values.
use Rattle.std.specs.Prelude.{◌≡◌, ◌≢◌, ◌↔◌, ◌⊎◌, ℕ, ◌+◌, ◌<◌, ◌≤◌, Bool, true, false, not, IsTrue, List, [], ◌∷◌, length, get_or, All, Contains, refl}
use Rattle.std.proofs.Common.{arith, sym, ◌∙◌, ap, subst, inl, inr}
use Rattle.std.proofs.lemmas.Bool.{cases_Bool, both_ways}
use Rattle.std.proofs.lemmas.List.{get_or_default}
use Rattle.pi_constraints.specs.declared.constraint.Item.{Item}
use Rattle.pi_constraints.specs.declared.constraint.Constraint.{Constraint}
use Rattle.pi_constraints.specs.declared.domain.Span.{Span}
use Rattle.pi_constraints.specs.declared.var_domain.VarDomain.{VarDomain}
use Rattle.pi_constraints.specs.Constraint.{IsWithinLimits}
use Rattle.pi_prop_spec.specs.Places.{places_of}
use Rattle.pi_sat_spec.specs.Domains.{domain_of, has_none}
use Rattle.pi_sat_spec.specs.Places.{IsPlace, IsNoPlace}
use Rattle.pi_sat_spec.specs.Solutions.{MaySearch}
use Rattle.pi_sat_spec.proofs.LookupLemmas.{domain-none, domain-at}
use Rattle.pi_sat_check.specs.May.{HasValues, HaveValues, MayHave}

-- ---- one after the other

pub all-so-far : {X : Type 0} (P : X → Type 0) (xs : List X) (i : ℕ) (x : X) → i < length xs → x ≡ get_or xs i x → P x → ((k : ℕ) (other : X) → k < i → P (get_or xs k other)) →
    (k : ℕ) (other : X) → k < i + 1 → P (get_or xs k other)
all-so-far P xs i x lt read p before k other l = elim (before-or-here k i l) [
  | inl less ↦ before k other less
  | inr e ↦ subst P (sym (ap (λ (j : ℕ). get_or xs j other) e ∙ (get_or_default xs i other x lt ∙ sym read))) p
]
  where
    before-or-here : (j n : ℕ) → j < n + 1 → (j < n) ⊎ (j ≡ n)
    before-or-here j n h = grind (arith, h)

pub not-all : {X : Type 0} (P : X → Type 0) (xs : List X) (i : ℕ) (x : X) (b : Bool) → i < length xs → x ≡ get_or xs i x → (IsTrue b ↔ P x) → b ≡ false → All P xs → ⊥
not-all P xs i x b lt read is f all = both_ways b f (is.1 (subst P (sym read) (all i x lt)))

-- ---- constraints and items

pub may-so : (xs : List VarDomain) (cs : List Constraint) → All (MayHave xs) cs → MaySearch xs cs
may-so xs cs h = record {
  limits = λ k other l. (h k other l).0;
  values = λ k other l n in_it. (h k other l).1 in_it.0 (Item.Var n) in_it.1 n in_it.2;
}

pub so-may : (xs : List VarDomain) (cs : List Constraint) → MaySearch xs cs → All (MayHave xs) cs
so-may xs cs h = λ k other l. (h.limits k other l, λ j item m n e. h.values k other l n (j, m, get_or_default (places_of (get_or cs k other)) j (Item.Var n) item m ∙ e))

pub values-none : (xs : List VarDomain) (item : Item) (n : ℕ) → item ≡ Item.Var n → IsNoPlace xs n → HasValues xs item → ⊥
values-none xs item n e none h = h n e (domain-none xs n none)

same-variable : (m n : ℕ) → Item.Var m ≡ Item.Var n → m ≡ n
same-variable m n e = ap number e
  where
    number : Item → ℕ
    number (Item.Var k) = k
    number (Item.Int i) = 0

pub values-at : (xs : List VarDomain) (item : Item) (n i : ℕ) (x : VarDomain) (b : Bool) → item ≡ Item.Var n → IsPlace xs n i → b ≡ has_none (get_or xs i x).domain → IsTrue (not b) ↔ HasValues xs item
values-at xs item n i x b e place is =
    let here : domain_of xs n ≡ (get_or xs i x).domain = domain-at xs n i x place in (
      λ t m f. let same : n ≡ m = same-variable n m (sym e ∙ f) in
          subst (λ (k : ℕ). domain_of xs k ≢ []) same (λ g. some b t (is ∙ ap has_none (sym here ∙ g))),
      λ h. none b (λ t. h n e (here ∙ empty (get_or xs i x).domain (sym is ∙ t))),
    )
  where
    some : (c : Bool) → IsTrue (not c) → c ≡ true → ⊥
    some true t f = cc
    some false t f = cc

    none : (c : Bool) → (c ≡ true → ⊥) → IsTrue (not c)
    none true h = absurd (h refl)
    none false h = refl

    empty : (d : List Span) → has_none d ≡ true → d ≡ []
    empty [] h = refl
    empty (s ∷ ss) h = absurd cc
