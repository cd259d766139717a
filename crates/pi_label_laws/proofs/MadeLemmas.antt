-- In a stable state a posted constraint holds for each value that is left of a variable, where the variable stands as it does in a constraint that makes its value and all other places come to integers.
use Rattle.std.specs.Prelude.{◌≡◌, ◌≢◌, ◌⊎◌, ℕ, zero, suc, ◌<◌, ℤ, pos, ◌+ℤ◌, ◌*ℤ◌, ◌≤ℤ◌, IsTrue, List, [], ◌∷◌, length, map, Some, Contains, refl}
use Rattle.std.specs.Int.{int_min, int_max}
use Rattle.std.proofs.Common.{arith, sym, ◌∙◌, ap, subst, inl, inr}
use Rattle.std.proofs.lemmas.Int.{ints, clamps}
use Rattle.pi_constraints.specs.declared.constraint.Constraint.{Constraint}
use Rattle.pi_constraints.specs.declared.constraint.Rel.{Rel}
use Rattle.pi_constraints.specs.declared.constraint.Item.{Item}
use Rattle.pi_constraints.specs.declared.domain.Span.{Span}
use Rattle.pi_constraints.specs.Domain.{has_value}
use Rattle.pi_constraints.specs.Constraint.{SumHasVariable, IsSum, IsSumWithinLimits}
use Rattle.pi_constraints.specs.State.{State, domain_of}
use Rattle.pi_prop_spec.specs.Ends.{greatest_of, IsBetween, IsFixedTo}
use Rattle.pi_prop_spec.specs.Places.{sum_places, places_of, domain_at}
use Rattle.pi_prop_spec.specs.Sums.{SumKeeps, OppositeKeeps}
use Rattle.pi_prop_spec.specs.Rules.{least_corner, greatest_corner, ProductKeeps, magnitude, AbsoluteKeeps}
use Rattle.pi_prop_spec.specs.Reified.{LeavesValues, ReifiedKeeps}
use Rattle.pi_prop_spec.specs.Filter.{RuleKeeps, PlaceKeeps}
use Rattle.pi_prop_spec.specs.Solutions.{value_of, sum_of, Stands, Holds}
use Rattle.pi_prop_spec.proofs.SumLaws.{HasFixed, sum-decided, opposite-decided}
use Rattle.pi_prop_spec.proofs.SumLemmas.{variable_at}
use Rattle.pi_settling.specs.Roots.{root_item, only}
use Rattle.pi_settling.proofs.PlaceLemmas.{place_at}
use Rattle.pi_settling.proofs.StableLemmas.{has-only}
use Rattle.pi_settling.proofs.TwiceLemmas.{left, has_in}
use Rattle.pi_label_laws.specs.Made.{IsMadeIn, in_sum, as_product, as_absolute, as_truth}
use Rattle.pi_label_laws.proofs.RestLemmas.{Rests, IsTold, valued, valued-item, is_posted, IsOnly, told-only, read_at, rest-leaves, left-variable, only-fixed, all_told-holds}
use Rattle.pi_label_laws.proofs.OthersLemmas.{stands-by_others, place_or_none, one-place, length-sum_places, has-place, is-term, has-variable, place-at}

-- a variable comes to one that isn't bound, of which a value is left
pub record OpenAt (r : State) (m v : ℕ) (d : List Span) (i : ℤ) : Type 0 where
  pub rests : Rests r
  pub root : root_item r (Item.Var m) ≡ Item.Var v
  pub has : domain_of r v ≡ Some d
  pub inside : IsTrue (has_value d i)

-- each unbound variable has that value
abbrev pub with_value : State → ℤ → ℕ → ℤ
with_value r i = valued r (λ k. i)

abbrev pub OthersTold : State → ℕ → Constraint → Type 0
OthersTold r m c = (y : Item) → Contains (places_of c) y → y ≢ Item.Var m → IsTold r y

pub value-here : (r : State) (m v : ℕ) (d : List Span) (i : ℤ) → OpenAt r m v d i → with_value r i m ≡ i
value-here r m v d i o = valued-item r (λ k. i) (Item.Var m) ∙ ap (value_of (λ k. i)) o.root

open-left : (r : State) (m v : ℕ) (d : List Span) (i : ℤ) → OpenAt r m v d i → left r (root_item r (Item.Var m)) ≡ d
open-left r m v d i o = ap (left r) o.root ∙ left-variable r v d o.has

-- what the filter keeps at the variable's place
open-kept : (r : State) (m v : ℕ) (d : List Span) (i : ℤ) (c : Constraint) (k : ℕ) → OpenAt r m v d i → Contains r.constraints c → k < length (places_of c) → place_at c k ≡ Item.Var m → RuleKeeps c (read_at r c) k i
open-kept r m v d i c k o posted l at =
    let here : left r (root_item r (place_at c k)) ≡ d = ap (λ (y : Item). left r (root_item r y)) at ∙ open-left r m v d i o in
    let kept : PlaceKeeps c (read_at r c) k i = rest-leaves r c k i o.rests posted l (has_in d (left r (root_item r (place_at c k))) i (sym here) o.inside) k l (inl refl) in
    kept.rule

-- ---- sums

variable-not : (j m : ℕ) → j ≢ m → ◌≢◌ {A = Item} (Item.Var j) (Item.Var m)
variable-not j m other e = other (number (Item.Var j) (Item.Var m) e)
  where
    number_of : Item → ℕ
    number_of (Item.Var n) = n
    number_of (Item.Int i) = 0

    number : (x y : Item) → x ≡ y → number_of x ≡ number_of y
    number x y e = ap number_of e

-- the terms of a sum whose items come to integers are fixed
term-fixed : (r : State) (b : ℕ → ℤ) (c : Constraint) (ts : List (ℤ × ℕ)) (j : ℕ) → Rests r → Contains r.constraints c → Contains (places_of c) (Item.Var (variable_at ts j)) → IsTold r (Item.Var (variable_at ts j)) → j < length ts →
    IsFixedTo (domain_at (map (λ x. left r (root_item r x)) (sum_places ts)) j) (valued r b (variable_at ts j))
term-fixed r b c ts j w posted at told l =
    let is : IsOnly r b (Item.Var (variable_at ts j)) = told-only r b c (Item.Var (variable_at ts j)) w posted at told in
    subst (λ (d : List Span). IsFixedTo d (valued r b (variable_at ts j))) (sym (place-at (λ x. left r (root_item r x)) ts j l ∙ is)) (only-fixed (valued r b (variable_at ts j)))

count-terms : (f : Item → List Span) (ts : List (ℤ × ℕ)) → length (map f (sum_places ts)) ≡ length ts
unfolding sum_places
count-terms f [] = refl
count-terms f (t ∷ ts) = ap suc (count-terms f ts)

term-place : (rel : Rel) (ts : List (ℤ × ℕ)) (constant : ℤ) (k : ℕ) → k < length ts → place_at (Constraint.Linear rel ts constant) k ≡ Item.Var (variable_at ts k)
unfolding sum_places
term-place rel [] constant k l = absurd (omega arith)
term-place rel (t ∷ ts) constant zero l = refl
term-place rel (t ∷ ts) constant (suc k) l = term-place rel ts constant k (omega arith)

sum-at : (r : State) (m v : ℕ) (d : List Span) (i : ℤ) (rel : Rel) (ts : List (ℤ × ℕ)) (constant : ℤ) (k : ℕ) → OpenAt r m v d i → Contains r.constraints (Constraint.Linear rel ts constant) →
    OthersTold r m (Constraint.Linear rel ts constant) → IsSum 0 ts → k < length ts → variable_at ts k ≡ m → Holds (Constraint.Linear rel ts constant) (with_value r i)
sum-at r m v d i rel ts constant k o posted others sum l at =
    let c : Constraint = Constraint.Linear rel ts constant in
    let a : ℕ → ℤ = with_value r i in
    let kept : SumKeeps rel ts constant (read_at r c) k i = open-kept r m v d i c k o posted (let e = length-sum_places ts in omega arith) (term-place rel ts constant k l ∙ ap Item.Var at) in
    let value : a (variable_at ts k) ≡ i = ap a at ∙ value-here r m v d i o in
    stands-by_others rel a ts constant (read_at r c) k (record {
      count = count-terms (λ x. left r (root_item r x)) ts;
      inside = l;
      all = λ j b other.
          let apart : variable_at ts j ≢ m = λ e. other (one-place 0 ts j k sum b l (e ∙ sym at)) in
          term-fixed r (λ n. i) c ts j o.rests posted (has-place ts j b) (others (Item.Var (variable_at ts j)) (has-place ts j b) (variable-not (variable_at ts j) m apart)) b;
    }) (subst (λ (z : ℤ). SumKeeps rel ts constant (read_at r c) k z) (sym value) kept)

sum-holds : (r : State) (m v : ℕ) (d : List Span) (i : ℤ) (rel : Rel) (ts : List (ℤ × ℕ)) (constant : ℤ) → OpenAt r m v d i → Contains r.constraints (Constraint.Linear rel ts constant) →
    OthersTold r m (Constraint.Linear rel ts constant) → Holds (Constraint.Linear rel ts constant) (with_value r i)
sum-holds r m v d i rel ts constant o posted others =
    let c : Constraint = Constraint.Linear rel ts constant in
    let limits : IsSumWithinLimits ts constant = is_posted r c o.rests.state posted in
    elim (place_or_none ts m) [
      | inl (k, l, at) ↦ sum-at r m v d i rel ts constant k o posted others limits.2 l at
      | inr none ↦ all_told-holds r (λ n. i) c o.rests posted (λ y at.
          let there = is-term ts y at in
          others y at (λ e. variable-not (variable_at ts there.0) m (none there.0 there.1) (sym there.2 ∙ e)))
    ]

-- ---- products and absolute values

of_four : (p i : ℤ) → int_min (int_min p p) (int_min p p) ≤ℤ i → i ≤ℤ int_max (int_max p p) (int_max p p) → i ≡ p
of_four p i h k = omega (arith, ints, clamps, h, k)

product-only : (dx dy : List Span) (x y i : ℤ) → dx ≡ only x → dy ≡ only y → (least_corner dx dy ≤ℤ i) × (i ≤ℤ greatest_corner dx dy) → i ≡ x *ℤ y
unfolding greatest_of
product-only dx dy x y i e f h =
    let low : least_corner (only x) (only y) ≤ℤ i = subst (λ (d : List Span). least_corner (only x) d ≤ℤ i) f (subst (λ (d : List Span). least_corner d dy ≤ℤ i) e h.0) in
    let high : i ≤ℤ greatest_corner (only x) (only y) = subst (λ (d : List Span). i ≤ℤ greatest_corner (only x) d) f (subst (λ (d : List Span). i ≤ℤ greatest_corner d dy) e h.1) in
    of_four (x *ℤ y) i low high

product-holds : (r : State) (m v : ℕ) (d : List Span) (i : ℤ) (x y : Item) → OpenAt r m v d i → Contains r.constraints (Constraint.Product (Item.Var m) x y) → OthersTold r m (Constraint.Product (Item.Var m) x y) →
    x ≢ Item.Var m → y ≢ Item.Var m → Holds (Constraint.Product (Item.Var m) x y) (with_value r i)
product-holds r m v d i x y o posted others apart_x apart_y =
    let c : Constraint = Constraint.Product (Item.Var m) x y in
    let a : ℕ → ℤ = with_value r i in
    let kept : ProductKeeps (read_at r c) 0 i = open-kept r m v d i c 0 o posted (omega arith) refl in
    let only_x : IsOnly r (λ n. i) x = told-only r (λ n. i) c x o.rests posted (1, omega arith, refl) (others x (1, omega arith, refl) apart_x) in
    let only_y : IsOnly r (λ n. i) y = told-only r (λ n. i) c y o.rests posted (2, omega arith, refl) (others y (2, omega arith, refl) apart_y) in
    value-here r m v d i o ∙ product-only (left r (root_item r x)) (left r (root_item r y)) (value_of a x) (value_of a y) i only_x only_y (kept.product refl)

between_one : (x u : ℤ) → x ≤ℤ u → u ≤ℤ x → u ≡ x
between_one x u h k = omega (arith, ints, h, k)

between-only : (d : List Span) (x u : ℤ) → d ≡ only x → IsBetween d u → u ≡ x
unfolding greatest_of
between-only d x u e h = let there : IsBetween (only x) u = subst (λ (f : List Span). IsBetween f u) e h in between_one x u there.0 there.1

absolute-holds : (r : State) (m v : ℕ) (d : List Span) (i : ℤ) (x : Item) → OpenAt r m v d i → Contains r.constraints (Constraint.Absolute (Item.Var m) x) → OthersTold r m (Constraint.Absolute (Item.Var m) x) →
    x ≢ Item.Var m → Holds (Constraint.Absolute (Item.Var m) x) (with_value r i)
absolute-holds r m v d i x o posted others apart =
    let c : Constraint = Constraint.Absolute (Item.Var m) x in
    let a : ℕ → ℤ = with_value r i in
    let kept : AbsoluteKeeps (read_at r c) 0 i = open-kept r m v d i c 0 o posted (omega arith) refl in
    let only_x : IsOnly r (λ n. i) x = told-only r (λ n. i) c x o.rests posted (1, omega arith, refl) (others x (1, omega arith, refl) apart) in
    let low = kept.least refl in
    let high = kept.greatest refl in
    let least : magnitude (value_of a x) ≤ℤ i = subst (λ (u : ℤ). magnitude u ≤ℤ i) (between-only (left r (root_item r x)) (value_of a x) low.0 only_x low.1) low.2 in
    let greatest : i ≤ℤ magnitude (value_of a x) = subst (λ (u : ℤ). i ≤ℤ magnitude u) (between-only (left r (root_item r x)) (value_of a x) high.0 only_x high.1) high.2 in
    value-here r m v d i o ∙ between_one (magnitude (value_of a x)) i least greatest

-- ---- truths

some-terms : (ts : List (ℤ × ℕ)) → ts ≢ [] → 0 < length ts
some-terms [] h = absurd (h refl)
some-terms (t ∷ ts) h = omega arith

truth-by : (rel : Rel) (a : ℕ → ℤ) (ts : List (ℤ × ℕ)) (constant : ℤ) (es : List (List Span)) (i : ℤ) → HasFixed a ts es → ((n : ℤ) → IsTrue (has_value (domain_at es 0) n) → n ≡ a (variable_at ts 0)) → 0 < length ts →
    ((i ≡ pos 1) × LeavesValues (SumKeeps rel ts constant es) es) ⊎ ((i ≡ pos 0) × LeavesValues (OppositeKeeps rel ts constant es) es) →
    ((i ≡ pos 1) × Stands rel (constant +ℤ sum_of a ts)) ⊎ ((i ≡ pos 0) × (Stands rel (constant +ℤ sum_of a ts) → ⊥))
truth-by rel a ts constant es i f one some (inl h) =
    let w = h.1 0 (let e = f.count in omega arith) in
    inl (h.0, sum-decided rel a ts constant es 0 f some (subst (λ (z : ℤ). SumKeeps rel ts constant es 0 z) (one w.0 w.1) w.2))
truth-by rel a ts constant es i f one some (inr h) =
    let w = h.1 0 (let e = f.count in omega arith) in
    inr (h.0, opposite-decided rel a ts constant es 0 f some (subst (λ (z : ℤ). OppositeKeeps rel ts constant es 0 z) (one w.0 w.1) w.2))

behind-truth : (x : Item) (ts : List (ℤ × ℕ)) (j : ℕ) → j < length ts → Contains (x ∷ sum_places ts) (Item.Var (variable_at ts j))
behind-truth x ts j l = let there = has-place ts j l in (suc there.0, omega (arith, there.1), there.2)

truth-holds : (r : State) (m v : ℕ) (d : List Span) (i : ℤ) (rel : Rel) (ts : List (ℤ × ℕ)) (constant : ℤ) → OpenAt r m v d i → Contains r.constraints (Constraint.Reified (Item.Var m) rel ts constant) →
    OthersTold r m (Constraint.Reified (Item.Var m) rel ts constant) → (SumHasVariable ts m → ⊥) → Holds (Constraint.Reified (Item.Var m) rel ts constant) (with_value r i)
truth-holds r m v d i rel ts constant o posted others apart =
    let c : Constraint = Constraint.Reified (Item.Var m) rel ts constant in
    let a : ℕ → ℤ = with_value r i in
    let limits : IsSumWithinLimits ts constant = (is_posted r c o.rests.state posted).1 in
    let some : 0 < length ts = some-terms ts limits.0 in
    let es : List (List Span) = map (λ x. left r (root_item r x)) (sum_places ts) in
    let kept : ReifiedKeeps rel ts constant (read_at r c) 0 i = open-kept r m v d i c 0 o posted (omega arith) refl in
    let told : (j : ℕ) → j < length ts → IsTold r (Item.Var (variable_at ts j)) =
    λ j l. others (Item.Var (variable_at ts j)) (behind-truth (Item.Var m) ts j l) (variable-not (variable_at ts j) m (λ e. apart (subst (SumHasVariable ts) e (has-variable ts j l)))) in
    let fixed : HasFixed a ts es = record {
      count = count-terms (λ x. left r (root_item r x)) ts;
      all = λ j l. term-fixed r (λ n. i) c ts j o.rests posted (behind-truth (Item.Var m) ts j l) (told j l) l;
    } in
    let first : IsOnly r (λ n. i) (Item.Var (variable_at ts 0)) = told-only r (λ n. i) c (Item.Var (variable_at ts 0)) o.rests posted (behind-truth (Item.Var m) ts 0 some) (told 0 some) in
    let one : (n : ℤ) → IsTrue (has_value (domain_at es 0) n) → n ≡ a (variable_at ts 0) =
    λ n h. has-only (a (variable_at ts 0)) n (has_in (domain_at es 0) (only (a (variable_at ts 0))) n (place-at (λ x. left r (root_item r x)) ts 0 some ∙ first) h) in
    let here : a m ≡ i = value-here r m v d i o in
    let result = truth-by rel a ts constant es i fixed one some (kept.truth refl) in
    elim result [
      | inl h ↦ inl (here ∙ h.0, h.1)
      | inr h ↦ inr (here ∙ h.0, h.1)
    ]

-- ---- all of them

pub made-holds : (r : State) (m v : ℕ) (d : List Span) (i : ℤ) (c : Constraint) → OpenAt r m v d i → Contains r.constraints c → OthersTold r m c → IsMadeIn m c → Holds c (with_value r i)
made-holds r m v d i c o posted others (in_sum rel ts constant) = sum-holds r m v d i rel ts constant o posted others
made-holds r m v d i c o posted others (as_product x y p q) = product-holds r m v d i x y o posted others p q
made-holds r m v d i c o posted others (as_absolute x p) = absolute-holds r m v d i x o posted others p
made-holds r m v d i c o posted others (as_truth rel ts constant p) = truth-holds r m v d i rel ts constant o posted others p
