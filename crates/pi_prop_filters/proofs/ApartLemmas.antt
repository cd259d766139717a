-- Places that have different variables.
use Rattle.std.specs.Prelude.{◌≡◌, ◌⊎◌, ℕ, zero, suc, ◌+◌, ◌<◌, ◌≤◌, ℤ, pos, IsTrue, Some, slice_get, get_or, take, List, [], ◌∷◌, ◌++◌, length, refl}
use Rattle.std.proofs.Common.{arith, sym, ◌∙◌, ap, subst, inl, inr}
use Rattle.std.proofs.lemmas.Bool.{cases_eq}
use Rattle.std.proofs.lemmas.Option.{slice_get_within, slice_get-get_or}
use Rattle.std.proofs.lemmas.List.{take_more, take_all}
use Rattle.pi_constraints.specs.declared.constraint.Item.{Item}
use Rattle.pi_constraints.specs.declared.domain.Span.{Span}
use Rattle.pi_constraints.specs.Domain.{has_value}
use Rattle.pi_prop_spec.specs.Places.{domain_at, sum_places}
use Rattle.pi_prop_spec.proofs.SumLemmas.{variable_at}
use Rattle.pi_prop_filters.specs.Variables.{AreMet, AreApart, AreApartBelow, StandsBefore, IsNew}
use Rattle.pi_prop_filters.proofs.RootLemmas.{some_item, variable_same}

no_variable : (i : ℤ) (v : ℕ) → Item.Int i ≡ Item.Var v → ⊥
no_variable i v e = absurd (cc)

still_below : (k many : ℕ) → k < many + 1 → (k ≡ many → ⊥) → k < many
still_below k many l o = omega arith

-- there nothing is to be met
pub apart_met : (items : List Item) (ds : List (List Span)) → AreApart items → length ds ≡ length items → AreMet items ds ds
apart_met items ds all c = record {
  count = refl;
  values = λ k n l. (
    λ t j b one. subst (λ (i : ℕ). IsTrue (has_value (domain_at ds i) n)) (sym (all j k one)) t,
    λ h. h k (omega (arith, c)) (inl refl),
  );
}

pub apart_none : (items : List Item) (next : ℕ) → AreApartBelow items 0 next
apart_none items next = record {
  apart = λ j k v l m e f. absurd (omega arith);
  below = λ k v l e. absurd (omega arith);
}

pub apart_all : (items : List Item) (many next : ℕ) → length items ≤ many → AreApartBelow items many next → AreApart items
apart_all items many next c f j k one = elim one [
  | inl e ↦ e
  | inr h ↦
      let l : j < length items = slice_get_within items j (Item.Var h.0) h.1 in
      let m : k < length items = slice_get_within items k (Item.Var h.0) h.2 in
      f.apart j k h.0 (omega arith) (omega arith) h.1 h.2
]

-- an integer has no variable
pub apart_integer : (items : List Item) (i next : ℕ) (n : ℤ) → slice_get items i ≡ Some (Item.Int n) → AreApartBelow items i next → AreApartBelow items (i + 1) next
apart_integer items i next n at f =
    let other : (k v : ℕ) → k < i + 1 → slice_get items k ≡ Some (Item.Var v) → k < i = λ k v l e. still_below k i l (λ s. no_variable n v (some_item (Item.Int n) (Item.Var v) (sym at ∙ (ap (slice_get items) (sym s) ∙ e)))) in record {
      apart = λ j k v l m e g. f.apart j k v (other j v l e) (other k v m g) e g;
      below = λ k v l e. f.below k v (other k v l e) e;
    }

-- a variable that none of the places before has
pub apart_variable : (items : List Item) (i next behind v : ℕ) → slice_get items i ≡ Some (Item.Var v) → v < behind → next ≤ behind → (StandsBefore items i v → ⊥) → AreApartBelow items i next → AreApartBelow items (i + 1) behind
apart_variable items i next behind v at above more new f =
    let here : (w : ℕ) → slice_get items i ≡ Some (Item.Var w) → v ≡ w = λ w e. variable_same v w (some_item (Item.Var v) (Item.Var w) (sym at ∙ e)) in
    let never : (k w : ℕ) → k < i → slice_get items k ≡ Some (Item.Var w) → v ≡ w → ⊥ = λ k w l e s. new (k, l, e ∙ ap (λ (x : ℕ). Some (Item.Var x)) (sym s)) in record {
      apart = λ j k w l m e g. elim (cases_eq j i) [
        | inl s ↦ elim (cases_eq k i) [
          | inl t ↦ s ∙ sym t
          | inr o ↦ absurd (never k w (still_below k i m o) g (here w (ap (slice_get items) (sym s) ∙ e)))
        ]
        | inr p ↦ elim (cases_eq k i) [
          | inl t ↦ absurd (never j w (still_below j i l p) e (here w (ap (slice_get items) (sym t) ∙ g)))
          | inr o ↦ f.apart j k w (still_below j i l p) (still_below k i m o) e g
        ]
      ];
      below = λ k w l e. elim (cases_eq k i) [
        | inl s ↦ let same : v ≡ w = here w (ap (slice_get items) (sym s) ∙ e) in omega arith
        | inr o ↦ let b : w < next = f.below k w (still_below k i l o) e in omega arith
      ];
    }

-- a variable above all before it
pub apart_above : (items : List Item) (i next behind v : ℕ) → slice_get items i ≡ Some (Item.Var v) → next ≤ v → behind ≡ v + 1 → AreApartBelow items i next → AreApartBelow items (i + 1) behind
apart_above items i next behind v at above is f = apart_variable items i next behind v at (omega arith) (omega arith) (λ h. let b : v < next = f.below h.0 v h.1 h.2 in omega arith) f

-- ---- one place after another

pub stands_none : (items : List Item) (v : ℕ) → StandsBefore items 0 v → ⊥
stands_none items v h = let l = h.1 in absurd (omega arith)

pub stands_here : (items : List Item) (k many v : ℕ) → k < many → many ≤ length items → get_or items k (Item.Var 0) ≡ Item.Var v → StandsBefore items many v
stands_here items k many v l most e = (k, l, slice_get-get_or items k (Item.Var 0) (omega arith) ∙ ap (λ (i : Item). Some i) e)

pub stands_more : (items : List Item) (k v : ℕ) → k < length items → (get_or items k (Item.Var 0) ≡ Item.Var v → ⊥) → (StandsBefore items k v → ⊥) → StandsBefore items (k + 1) v → ⊥
stands_more items k v l other new h = elim (cases_eq h.0 k) [
  | inl e ↦ other (some_item (get_or items k (Item.Var 0)) (Item.Var v) (sym (slice_get-get_or items k (Item.Var 0) l) ∙ (ap (slice_get items) (sym e) ∙ h.2)))
  | inr o ↦ new (h.0, still_below h.0 k h.1 o, h.2)
]

pub stands_all : (items : List Item) (k many v : ℕ) → many ≤ k → (StandsBefore items k v → ⊥) → StandsBefore items many v → ⊥
stands_all items k many v most new h = let l = h.1 in new (h.0, omega arith, h.2)

-- ---- of `element`

get_front : (items : List Item) (value : Item) (k : ℕ) (v : ℕ) → slice_get (items ++ value ∷ []) k ≡ Some (Item.Var v) → (slice_get items k ≡ Some (Item.Var v)) ⊎ ((k ≡ length items) × (value ≡ Item.Var v))
get_front [] value zero v e = inr (refl, some_item value (Item.Var v) e)
get_front [] value (suc k) v e = absurd (cc)
get_front (i ∷ items) value zero v e = inl e
get_front (i ∷ items) value (suc k) v e = elim (get_front items value k v e) [ inl h ↦ inl h | inr h ↦ inr (ap suc h.0, h.1) ]

pub element_apart : (index : Item) (items : List Item) (value : Item) → AreApart items → IsNew items index → IsNew items value → IsNew (value ∷ []) index → AreApart (index ∷ (items ++ value ∷ []))
element_apart index items value all first last ends j k (inl e) = e
element_apart index items value all first last ends zero zero (inr h) = refl
element_apart index items value all first last ends zero (suc k) (inr h) =
    let is : index ≡ Item.Var h.0 = some_item index (Item.Var h.0) h.1 in
    elim (get_front items value k h.0 h.2) [
      | inl f ↦ absurd (first k h.0 is f)
      | inr f ↦ absurd (ends 0 h.0 is (ap (λ (x : Item). Some x) f.1))
    ]
element_apart index items value all first last ends (suc j) zero (inr h) =
    let is : index ≡ Item.Var h.0 = some_item index (Item.Var h.0) h.2 in
    elim (get_front items value j h.0 h.1) [
      | inl f ↦ absurd (first j h.0 is f)
      | inr f ↦ absurd (ends 0 h.0 is (ap (λ (x : Item). Some x) f.1))
    ]
element_apart index items value all first last ends (suc j) (suc k) (inr h) = ap suc (elim (get_front items value j h.0 h.1) [
  | inl f ↦ elim (get_front items value k h.0 h.2) [
    | inl g ↦ all j k (inr (h.0, f, g))
    | inr g ↦ absurd (last j h.0 g.1 f)
  ]
  | inr f ↦ elim (get_front items value k h.0 h.2) [
    | inl g ↦ absurd (last k h.0 f.1 g)
    | inr g ↦ f.0 ∙ sym g.0
  ]
])

-- ---- of a reified sum

pub reified_apart : (truth : Item) (ts : List (ℤ × ℕ)) → AreApart (sum_places ts) → IsNew (sum_places ts) truth → AreApart (truth ∷ sum_places ts)
reified_apart truth ts all new j k (inl e) = e
reified_apart truth ts all new zero zero (inr h) = refl
reified_apart truth ts all new zero (suc k) (inr h) = absurd (new k h.0 (some_item truth (Item.Var h.0) h.1) h.2)
reified_apart truth ts all new (suc j) zero (inr h) = absurd (new j h.0 (some_item truth (Item.Var h.0) h.2) h.1)
reified_apart truth ts all new (suc j) (suc k) (inr h) = ap suc (all j k (inr h))

sum_places-push : (ts : List (ℤ × ℕ)) (t : ℤ × ℕ) → sum_places (ts ++ t ∷ []) ≡ sum_places ts ++ Item.Var t.1 ∷ []
unfolding sum_places
sum_places-push [] t = refl
sum_places-push (u ∷ ts) t = ap (λ (is : List Item). Item.Var u.1 ∷ is) (sum_places-push ts t)

pub sum_places-take_more : (ts : List (ℤ × ℕ)) (i : ℕ) → i < length ts → sum_places (take (i + 1) ts) ≡ sum_places (take i ts) ++ Item.Var (variable_at ts i) ∷ []
sum_places-take_more ts i l = ap sum_places (take_more ts i (pos 0, 0) l) ∙ sum_places-push (take i ts) (get_or ts i (pos 0, 0))

pub new_none : (ts : List (ℤ × ℕ)) (truth : Item) → IsNew (sum_places (take 0 ts)) truth
unfolding sum_places
new_none ts truth k v e f = absurd (cc)

-- one more term has another variable
pub new_more : (ts : List (ℤ × ℕ)) (i : ℕ) (truth : Item) → i < length ts → (truth ≡ Item.Var (variable_at ts i) → ⊥) → IsNew (sum_places (take i ts)) truth → IsNew (sum_places (take (i + 1) ts)) truth
new_more ts i truth l other new k v e f =
    elim (get_front (sum_places (take i ts)) (Item.Var (variable_at ts i)) k v (subst (λ (is : List Item). slice_get is k ≡ Some (Item.Var v)) (sum_places-take_more ts i l) f)) [
      | inl h ↦ new k v e h
      | inr h ↦ other (e ∙ sym h.1)
    ]

pub new_all : (ts : List (ℤ × ℕ)) (i : ℕ) (truth : Item) → length ts ≤ i → IsNew (sum_places (take i ts)) truth → IsNew (sum_places ts) truth
new_all ts i truth l new = subst (λ (x : List (ℤ × ℕ)). IsNew (sum_places x) truth) (take_all i ts l) new
