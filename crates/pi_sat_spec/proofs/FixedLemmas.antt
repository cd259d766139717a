-- Each constraint holds or doesn't, so what fixed places tell is that it holds.
use Rattle.std.specs.Prelude.{◌≡◌, ◌⊎◌, ℕ, zero, suc, ◌<◌, IsTrue, List, [], length, get_or, ℤ, pos, ◌+ℤ◌, ◌*ℤ◌, refl}
use Rattle.std.proofs.Common.{arith, sym, ◌∙◌, ap, subst, inl, inr}
use Rattle.std.proofs.lemmas.Bool.{cases_Bool, both_ways}
use Rattle.std.proofs.lemmas.Int.{ints}
use Rattle.std.proofs.lemmas.List.{length-map, get_or-map}
use Rattle.pi_constraints.specs.declared.constraint.Constraint.{Constraint}
use Rattle.pi_constraints.specs.declared.constraint.Item.{Item}
use Rattle.pi_constraints.specs.declared.constraint.Rel.{Rel}
use Rattle.pi_constraints.specs.declared.domain.Span.{Span}
use Rattle.pi_constraints.specs.Domain.{IsWithinBounds, IsDomain, has_value}
use Rattle.pi_prop_spec.specs.Ends.{IsFixedTo, greatest_of}
use Rattle.pi_prop_spec.specs.Places.{places_of, domain_at}
use Rattle.pi_prop_spec.specs.Relations.{stands}
use Rattle.pi_prop_spec.specs.Rules.{magnitude}
use Rattle.pi_prop_spec.specs.Solutions.{sum_of, value_of, values_of_items, value_at, Stands, AreDifferent, Holds}
use Rattle.pi_prop_spec.proofs.DifferentLaws.{different_or_pair}
use Rattle.pi_prop_spec.proofs.FilterLemmas.{filters_are_decisive}
use Rattle.pi_prop_spec.proofs.RelationLemmas.{stands_true, true_stands}
use Rattle.pi_sat_spec.specs.Domains.{only}
use Rattle.pi_sat_spec.specs.Fixed.{fixed_places, FixedPlacesTell}
use Rattle.pi_sat_spec.proofs.PlaceLemmas.{place-value, only-domain, only-has}

abbrev OrNot : Type 0 → Type 0
OrNot P = P ⊎ (P → ⊥)

same-or-not : (m n : ℤ) → OrNot (m ≡ n)
same-or-not m n = grind (arith, ints)

stands-or-not : (rel : Rel) (x : ℤ) → OrNot (Stands rel x)
stands-or-not rel x = elim (cases_Bool (stands rel x)) [
  | inl e ↦ inl (stands_true rel x e)
  | inr e ↦ inr (λ s. both_ways (stands rel x) e (true_stands rel x s))
]

different-or-not : (ns : List ℤ) → OrNot (AreDifferent ns)
different-or-not ns = elim (different_or_pair ns) [
  | inl d ↦ inl d
  | inr p ↦ inr (λ d. d p.first p.second p.ordered p.inside p.same)
]

-- one of the first so many items has the number of the index, and the value
abbrev Chosen : ℤ → ℤ → List ℤ → ℕ → Type 0
Chosen index value ns n = (i : ℕ) × (i < n) × (index ≡ pos (suc i)) × (get_or ns i (pos 0) ≡ value)

chosen-or-not : (index value : ℤ) (ns : List ℤ) (n : ℕ) → OrNot (Chosen index value ns n)
chosen-or-not index value ns zero = inr (λ h. let l = h.1 in omega arith)
chosen-or-not index value ns (suc n) = elim (chosen-or-not index value ns n) [
  | inl h ↦ inl (h.0, (let l = h.1 in omega arith), h.2, h.3)
  | inr none ↦ elim (same-or-not index (pos (suc n))) [
    | inr other ↦ inr (λ h. later index value ns n none other h)
    | inl e ↦ elim (same-or-not (get_or ns n (pos 0)) value) [
      | inl f ↦ inl (n, omega arith, e, f)
      | inr other ↦ inr (λ h. unequal index value ns n none other h)
    ]
  ]
]
  where
    before-or-last : (i m : ℕ) → i < suc m → (i < m) ⊎ (i ≡ m)
    before-or-last i m l = grind arith

    later : (j v : ℤ) (ms : List ℤ) (m : ℕ) → (Chosen j v ms m → ⊥) → (j ≡ pos (suc m) → ⊥) → Chosen j v ms (suc m) → ⊥
    later j v ms m none other h = elim (before-or-last h.0 m h.1) [
      | inl l ↦ none (h.0, l, h.2, h.3)
      | inr e ↦ other (h.2 ∙ ap (λ (i : ℕ). pos (suc i)) e)
    ]

    unequal : (j v : ℤ) (ms : List ℤ) (m : ℕ) → (Chosen j v ms m → ⊥) → (get_or ms m (pos 0) ≡ v → ⊥) → Chosen j v ms (suc m) → ⊥
    unequal j v ms m none other h = elim (before-or-last h.0 m h.1) [
      | inl l ↦ none (h.0, l, h.2, h.3)
      | inr e ↦ other (ap (λ (i : ℕ). get_or ms i (pos 0)) (sym e) ∙ h.3)
    ]

reified-or-not : (t : ℤ) (P : Type 0) → OrNot P → OrNot (((t ≡ pos 1) × P) ⊎ ((t ≡ pos 0) × (P → ⊥)))
reified-or-not t P (inl p) = elim (same-or-not t (pos 1)) [
  | inl e ↦ inl (inl (e, p))
  | inr other ↦ inr (λ h. elim h [ inl a ↦ other a.0 | inr b ↦ b.1 p ])
]
reified-or-not t P (inr fails) = elim (same-or-not t (pos 0)) [
  | inl e ↦ inl (inr (e, fails))
  | inr other ↦ inr (λ h. elim h [ inl a ↦ fails a.1 | inr b ↦ other b.0 ])
]

pub holds-or-not : (c : Constraint) (a : ℕ → ℤ) → OrNot (Holds c a)
holds-or-not (Constraint.Linear rel terms constant) a = stands-or-not rel (constant +ℤ sum_of a terms)
holds-or-not (Constraint.Product z x y) a = same-or-not (value_of a z) (value_of a x *ℤ value_of a y)
holds-or-not (Constraint.Absolute z x) a = same-or-not (value_of a z) (magnitude (value_of a x))
holds-or-not (Constraint.Different items) a = different-or-not (values_of_items a items)
holds-or-not (Constraint.Element index items value) a = chosen-or-not (value_of a index) (value_of a value) (values_of_items a items) (length items)
holds-or-not (Constraint.Reified truth rel terms constant) a = reified-or-not (value_of a truth) (Stands rel (constant +ℤ sum_of a terms)) (stands-or-not rel (constant +ℤ sum_of a terms))
holds-or-not (Constraint.Distinct items) a = different-or-not (values_of_items a items)

-- ---- places that are fixed

fixed-at : (a : ℕ → ℤ) (c : Constraint) (k : ℕ) → k < length (places_of c) → domain_at (fixed_places a c) k ≡ only (value_at a c k)
fixed-at a c k l =
    get_or-map (λ (x : Item). only (value_of a x)) (places_of c) k (Item.Int (pos 0)) [] l ∙ ap only (sym (place-value a c k l))

count-fixed : (a : ℕ → ℤ) (c : Constraint) → length (fixed_places a c) ≡ length (places_of c)
count-fixed a c = length-map (places_of c) (λ (x : Item). only (value_of a x))

only-fixed : (n : ℤ) → IsFixedTo (only n) n
unfolding greatest_of
only-fixed n = (refl, refl)

pub fixed_places_tell : FixedPlacesTell
fixed_places_tell c a limits bounds kept = elim (holds-or-not c a) [
  | inl h ↦ h
  | inr fails ↦
      let value-bounds : (k : ℕ) → k < length (places_of c) → IsWithinBounds (value_at a c k) =
      λ k l. subst IsWithinBounds (sym (place-value a c k l)) (bounds k (Item.Int (pos 0)) l) in
      absurd (kept ((filters_are_decisive c (fixed_places a c) a limits
      (record { count = count-fixed a c; domains = λ k l. let m : k < length (places_of c) = omega (arith, count-fixed a c) in subst IsDomain (sym (fixed-at a c k m)) (only-domain (value_at a c k) (value-bounds k m)) })
      (λ k l. subst (λ (d : List Span). IsTrue (has_value d (value_at a c k))) (sym (fixed-at a c k l)) (only-has (value_at a c k)))
      (λ k l. subst (λ (d : List Span). IsFixedTo d (value_at a c k)) (sym (fixed-at a c k l)) (only-fixed (value_at a c k)))).1 fails))
]
