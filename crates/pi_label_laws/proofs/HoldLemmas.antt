-- A constraint holds of values or it doesn't.
use Rattle.std.specs.Prelude.{◌≡◌, ◌⊎◌, ℕ, zero, suc, ◌<◌, List, length, get_or, ℤ, pos, negsuc, ◌+ℤ◌, ◌*ℤ◌, refl}
use Rattle.std.proofs.Common.{arith, sym, subst, inl, inr}
use Rattle.std.proofs.lemmas.Int.{ints}
use Rattle.std.proofs.lemmas.List.{length-map}
use Rattle.pi_constraints.specs.declared.constraint.Rel.{Rel}
use Rattle.pi_constraints.specs.declared.constraint.Item.{Item}
use Rattle.pi_constraints.specs.declared.constraint.Constraint.{Constraint}
use Rattle.pi_prop_spec.specs.Rules.{magnitude}
use Rattle.pi_prop_spec.specs.Solutions.{value_of, values_of_items, sum_of, Stands, AreDifferent, Holds}

-- so, or not so
abbrev pub OrNot : Type 0 → Type 0
OrNot P = P ⊎ (P → ⊥)

same_or_not : (x y : ℤ) → OrNot (x ≡ y)
same_or_not x y = grind (arith, ints)

stands_or_not : (rel : Rel) (x : ℤ) → OrNot (Stands rel x)
stands_or_not Rel.Equal x = same_or_not x (pos 0)
stands_or_not Rel.Unequal x = elim (same_or_not x (pos 0)) [ inl e ↦ inr (λ h. h e) | inr h ↦ inl h ]
stands_or_not Rel.AtMost x = grind (arith, ints)

-- what isn't not so is so
pub not_not : (P : Type 0) → OrNot P → ((P → ⊥) → ⊥) → P
not_not P (inl h) n = h
not_not P (inr h) n = absurd (n h)

-- a number is that of one of the items, which has the value
abbrev IsAt : List ℤ → ℤ → ℤ → Type 0
IsAt vs index v = (i : ℕ) × (i < length vs) × (index ≡ pos (suc i)) × (get_or vs i (pos 0) ≡ v)

pos_same : (m n : ℕ) → pos m ≡ pos n → m ≡ n
pos_same m n e = omega (arith, ints, e)

less_or_not : (m n : ℕ) → OrNot (m < n)
less_or_not m n = grind arith

at_or_not : (vs : List ℤ) (index v : ℤ) → OrNot (IsAt vs index v)
at_or_not vs (negsuc k) v = inr (λ h. let e = h.2 in omega (arith, ints, e))
at_or_not vs (pos zero) v = inr (λ h. let e = h.2 in omega (arith, ints, e))
at_or_not vs (pos (suc k)) v = elim (less_or_not k (length vs)) [
  | inl l ↦ elim (same_or_not (get_or vs k (pos 0)) v) [
    | inl e ↦ inl (k, l, refl, e)
    | inr other ↦ inr (λ h. let same : k ≡ h.0 = (let f = pos_same (suc k) (suc h.0) h.2 in omega arith) in other (subst (λ (i : ℕ). get_or vs i (pos 0) ≡ v) (sym same) h.3))
  ]
  | inr past ↦ inr (λ h. let same : k ≡ h.0 = (let f = pos_same (suc k) (suc h.0) h.2 in omega arith) in past (subst (λ (i : ℕ). i < length vs) (sym same) h.1))
]

element_or_not : (index : Item) (items : List Item) (value : Item) (a : ℕ → ℤ) → OrNot (Holds (Constraint.Element index items value) a)
element_or_not index items value a =
    let count : length (values_of_items a items) ≡ length items = length-map items (value_of a) in
    elim (at_or_not (values_of_items a items) (value_of a index) (value_of a value)) [
      | inl h ↦ inl (h.0, omega (arith, count, h.1), h.2, h.3)
      | inr h ↦ inr (λ k. h (k.0, omega (arith, count, k.1), k.2, k.3))
    ]

not_both : (x : ℤ) → x ≡ pos 1 → x ≡ pos 0 → ⊥
not_both x e f = omega (arith, ints, e, f)

abbrev Reifies : ℤ → Type 0 → Type 0
Reifies t P = ((t ≡ pos 1) × P) ⊎ ((t ≡ pos 0) × (P → ⊥))

reified_or_not : (t : ℤ) (P : Type 0) → OrNot P → OrNot (t ≡ pos 1) → OrNot (t ≡ pos 0) → OrNot (Reifies t P)
reified_or_not t P (inl h) (inl e) f = inl (inl (e, h))
reified_or_not t P (inr h) e (inl f) = inl (inr (f, h))
reified_or_not t P (inl h) (inr e) f = inr (λ r. elim r [ inl y ↦ e y.0 | inr y ↦ y.1 h ])
reified_or_not t P (inr h) e (inr f) = inr (λ r. elim r [ inl y ↦ h y.1 | inr y ↦ f y.0 ])

different_again : (vs : List ℤ) → ((AreDifferent vs → ⊥) → ⊥) → AreDifferent vs
different_again vs n i j l m e = n (λ h. h i j l m e)

-- a constraint that doesn't fail to hold does
pub holds-again : (c : Constraint) (a : ℕ → ℤ) → ((Holds c a → ⊥) → ⊥) → Holds c a
holds-again (Constraint.Linear rel terms constant) a n = not_not (Holds (Constraint.Linear rel terms constant) a) (stands_or_not rel (constant +ℤ sum_of a terms)) n
holds-again (Constraint.Product z x y) a n = not_not (Holds (Constraint.Product z x y) a) (same_or_not (value_of a z) (value_of a x *ℤ value_of a y)) n
holds-again (Constraint.Absolute z x) a n = not_not (Holds (Constraint.Absolute z x) a) (same_or_not (value_of a z) (magnitude (value_of a x))) n
holds-again (Constraint.Different items) a n = different_again (values_of_items a items) n
holds-again (Constraint.Element index items value) a n = not_not (Holds (Constraint.Element index items value) a) (element_or_not index items value a) n
holds-again (Constraint.Reified truth rel terms constant) a n =
    let t : ℤ = value_of a truth in
    not_not (Holds (Constraint.Reified truth rel terms constant) a)
    (reified_or_not t (Stands rel (constant +ℤ sum_of a terms)) (stands_or_not rel (constant +ℤ sum_of a terms)) (same_or_not t (pos 1)) (same_or_not t (pos 0))) n
holds-again (Constraint.Distinct items) a n = different_again (values_of_items a items) n
