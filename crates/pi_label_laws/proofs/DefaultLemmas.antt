-- Confining variables changes no solution but for values past the bounds of variables without a domain.
use Rattle.std.specs.Prelude.{◌≡◌, ◌⊎◌, ℕ, suc, ◌<◌, ◌≤◌, ℤ, IsTrue, List, [], ◌∷◌, Some, None, Contains, refl}
use Rattle.std.proofs.Common.{arith, sym, ◌∙◌, ap, subst, inl, inr}
use Rattle.std.proofs.lemmas.Int.{ints}
use Rattle.pi_constraints.specs.declared.constraint.Item.{Item}
use Rattle.pi_constraints.specs.Domain.{IsWithinBounds, has_value}
use Rattle.pi_constraints.specs.State.{State, Variable, free, within, bound, binding, bindings, next, domain_in, domain_of, with_domain}
use Rattle.pi_constraints.proofs.StateLemmas.{variable, held_is, same_or_not, domain_here, domain_elsewhere, domain_bindings}
use Rattle.pi_prop_spec.specs.Solutions.{value_of}
use Rattle.pi_settling.specs.Roots.{root_item, all_values, domain_or_all, given, Counts, by_domain, by_place}
use Rattle.pi_settling.specs.Solves.{Solves}
use Rattle.pi_settling.specs.Confined.{with_default, confined_at, confined}
use Rattle.pi_settling.proofs.TwiceLemmas.{has_in}
use Rattle.pi_settling.proofs.ConfinedLemmas.{root-same}
use Rattle.pi_settling.proofs.CalmGoals.{past-changed}

all-have : (i : ℤ) → IsWithinBounds i → IsTrue (has_value all_values i)
unfolding has_value
all-have i h = grind (arith, ints, h.0, h.1)

less_or_not : (m n : ℕ) → (m < n) ⊎ (n ≤ m)
less_or_not m n = grind arith

-- ---- a variable without a domain

abbrev confined_one : State → ℕ → State
confined_one s n = with_domain s n all_values

free-bindings : (s : State) (n : ℕ) → variable s n ≡ free → bindings (confined_one s n) ≡ bindings s
free-bindings s n e = domain_bindings s n all_values (held_is s n ∙ ap binding e)

free-given : (s : State) (n : ℕ) → variable s n ≡ free → (x : Item) → given (confined_one s n) x ≡ given s x
free-given s n e (Item.Int i) = refl
free-given s n e (Item.Var k) = elim (less_or_not n (next s)) [
  | inr past ↦ ap (λ (q : State). given q (Item.Var k)) (past-changed s n (within all_values) past)
  | inl made ↦ elim (same_or_not k n) [
    | inl same ↦
        let here : domain_of (confined_one s n) k ≡ Some all_values = ap (domain_of (confined_one s n)) same ∙ domain_here s n (within all_values) made in
        let was : domain_of s k ≡ None = ap (domain_of s) same ∙ ap domain_in e in
        ap domain_or_all here ∙ sym (ap domain_or_all was)
    | inr other ↦ ap domain_or_all (domain_elsewhere s n (within all_values) k other)
  ]
]

free-root : (s : State) (n : ℕ) → variable s n ≡ free → (x : Item) → root_item (confined_one s n) x ≡ root_item s x
free-root s n e x = root-same s (confined_one s n) (free-bindings s n e) x

free-counts : (s : State) (n : ℕ) → variable s n ≡ free → (x : Item) → Counts s x → Counts (confined_one s n) x
free-counts s n e x (by_domain k d same has) = elim (same_or_not k n) [
  | inl here ↦ absurd (let none : domain_of s k ≡ None = ap (domain_of s) here ∙ ap domain_in e in cc)
  | inr other ↦ by_domain k d same (domain_elsewhere s n (within all_values) k other ∙ has)
]
free-counts s n e x (by_place c y posted at same) = by_place c y posted at (same ∙ sym (free-root s n e y))

-- an item that counts afterwards is the variable, or counted before
counts-or : (s : State) (n : ℕ) → variable s n ≡ free → (x : Item) → Counts (confined_one s n) x → (x ≡ Item.Var n) ⊎ Counts s x
counts-or s n e x (by_domain k d same has) = elim (same_or_not k n) [
  | inl here ↦ inl (same ∙ ap Item.Var here)
  | inr other ↦ inr (by_domain k d same (sym (domain_elsewhere s n (within all_values) k other) ∙ has))
]
counts-or s n e x (by_place c y posted at same) = inr (by_place c y posted at (same ∙ free-root s n e y))

given-free : (s : State) (n : ℕ) → variable s n ≡ free → given s (Item.Var n) ≡ all_values
given-free s n e = ap (λ (v : Variable). domain_or_all (domain_in v)) e

Fits : State → (ℕ → ℤ) → Item → Type 0
Fits s a x = IsTrue (has_value (given s x) (value_of a x)) × IsWithinBounds (value_of a x)

free-fits : (s : State) (n : ℕ) (a : ℕ → ℤ) → variable s n ≡ free → Solves s a → IsWithinBounds (a n) → (x : Item) → Counts (confined_one s n) x → Fits (confined_one s n) a x
unfolding Fits
free-fits s n a e h b x counts = elim (counts-or s n e x counts) [
  | inr old ↦ (has_in (given s x) (given (confined_one s n) x) (value_of a x) (sym (free-given s n e x)) (h.values x old), h.bounded x old)
  | inl same ↦
      let here : given (confined_one s n) (Item.Var n) ≡ all_values = free-given s n e (Item.Var n) ∙ given-free s n e in
      subst (Fits (confined_one s n) a) (sym same) (has_in all_values (given (confined_one s n) (Item.Var n)) (a n) (sym here) (all-have (a n) b), b)
]

free-up : (s : State) (n : ℕ) (a : ℕ → ℤ) → variable s n ≡ free → Solves s a → IsWithinBounds (a n) → Solves (confined_one s n) a
unfolding Fits
free-up s n a e h b = record {
  follows = λ k. ap (value_of a) (free-root s n e (Item.Var k)) ∙ h.follows k;
  values = λ x counts. (free-fits s n a e h b x counts).0;
  bounded = λ x counts. (free-fits s n a e h b x counts).1;
  holds = h.holds;
}

free-down : (s : State) (n : ℕ) (a : ℕ → ℤ) → variable s n ≡ free → Solves (confined_one s n) a → Solves s a
free-down s n a e h = record {
  follows = λ k. sym (ap (value_of a) (free-root s n e (Item.Var k))) ∙ h.follows k;
  values = λ x counts. has_in (given (confined_one s n) x) (given s x) (value_of a x) (free-given s n e x) (h.values x (free-counts s n e x counts));
  bounded = λ x counts. h.bounded x (free-counts s n e x counts);
  holds = h.holds;
}

-- ---- one item

default-up : (s : State) (n : ℕ) (a : ℕ → ℤ) (v : Variable) → variable s n ≡ v → Solves s a → IsWithinBounds (a n) → Solves (with_default s n v) a
default-up s n a free e h b = free-up s n a e h b
default-up s n a (within d) e h b = h
default-up s n a (bound t) e h b = h

default-down : (s : State) (n : ℕ) (a : ℕ → ℤ) (v : Variable) → variable s n ≡ v → Solves (with_default s n v) a → Solves s a
default-down s n a free e h = free-down s n a e h
default-down s n a (within d) e h = h
default-down s n a (bound t) e h = h

abbrev BoundedAt : (ℕ → ℤ) → Item → Type 0
BoundedAt a y = (v : ℕ) → y ≡ Item.Var v → IsWithinBounds (a v)

one-up : (s : State) (a : ℕ → ℤ) (y : Item) → Solves s a → BoundedAt a y → Solves (confined_at s y) a
one-up s a (Item.Var n) h b = default-up s n a (variable s n) refl h (b n refl)
one-up s a (Item.Int i) h b = h

one-down : (s : State) (a : ℕ → ℤ) (y : Item) → Solves (confined_at s y) a → Solves s a
one-down s a (Item.Var n) h = default-down s n a (variable s n) refl h
one-down s a (Item.Int i) h = h

default-root : (s : State) (n : ℕ) (v : Variable) → variable s n ≡ v → (x : Item) → root_item (with_default s n v) x ≡ root_item s x
default-root s n free e x = free-root s n e x
default-root s n (within d) e x = refl
default-root s n (bound t) e x = refl

pub one-root : (s : State) (y x : Item) → root_item (confined_at s y) x ≡ root_item s x
one-root s (Item.Var n) x = default-root s n (variable s n) refl x
one-root s (Item.Int i) x = refl

-- ---- all of them

pub confined-up : (items : List Item) (s : State) (a : ℕ → ℤ) → Solves s a → ((x : Item) → Contains items x → (v : ℕ) → root_item s x ≡ Item.Var v → IsWithinBounds (a v)) → Solves (confined s items) a
unfolding confined
confined-up [] s a h b = h
confined-up (x ∷ items) s a h b =
    let c : State = confined_at s (root_item s x) in
    confined-up items c a (one-up s a (root_item s x) h (b x (0, omega arith, refl)))
    (λ y at v e. b y (suc at.0, omega (arith, at.1), at.2) v (sym (one-root s (root_item s x) y) ∙ e))

pub confined-down : (items : List Item) (s : State) (a : ℕ → ℤ) → Solves (confined s items) a → Solves s a
unfolding confined
confined-down [] s a h = h
confined-down (x ∷ items) s a h = one-down s a (root_item s x) (confined-down items (confined_at s (root_item s x)) a h)
