-- The filter of a sum whose places but one are fixed keeps no value at that place under which the sum doesn't stand as it has to.
use Rattle.std.specs.Prelude.{◌≡◌, ◌≢◌, ◌⊎◌, ℕ, zero, suc, ◌<◌, ◌≤◌, List, [], ◌∷◌, length, map, ℤ, pos, ◌+ℤ◌, ◌*ℤ◌, neg_ℤ, ◌≤ℤ◌, Contains, refl}
use Rattle.std.proofs.Common.{arith, sym, ◌∙◌, ap, subst, inl, inr}
use Rattle.std.proofs.lemmas.Int.{ints}
use Rattle.pi_constraints.specs.declared.constraint.Rel.{Rel}
use Rattle.pi_constraints.specs.declared.constraint.Item.{Item}
use Rattle.pi_constraints.specs.declared.domain.Span.{Span}
use Rattle.pi_constraints.specs.Constraint.{IsSum, SumHasVariable}
use Rattle.pi_prop_spec.specs.Ends.{IsFixedTo}
use Rattle.pi_prop_spec.specs.Places.{sum_places, domain_at}
use Rattle.pi_prop_spec.specs.Sums.{coefficient_at, least_of_others, AtMostKeeps, negated, SumKeeps}
use Rattle.pi_prop_spec.specs.Solutions.{sum_of, Stands}
use Rattle.pi_prop_spec.proofs.SumLemmas.{variable_at, least_of_others-fixed, length-negated, variable_at-negated, sum_of-negated}

-- each other place is fixed to the value of its variable
pub record OthersFixed (a : ℕ → ℤ) (ts : List (ℤ × ℕ)) (ds : List (List Span)) (k : ℕ) : Type 0 where
  pub count : length ds ≡ length ts
  pub inside : k < length ts
  pub all : (j : ℕ) → j < length ts → j ≢ k → IsFixedTo (domain_at ds j) (a (variable_at ts j))

others-negated : (a : ℕ → ℤ) (ts : List (ℤ × ℕ)) (ds : List (List Span)) (k : ℕ) → OthersFixed a ts ds k → OthersFixed a (negated ts) ds k
others-negated a ts ds k o = record {
  count = o.count ∙ sym (length-negated ts);
  inside = (let l = o.inside in omega (arith, length-negated ts));
  all = λ j l other. subst (λ (v : ℕ). IsFixedTo (domain_at ds j) (a v)) (sym (variable_at-negated ts j)) (o.all j (omega (arith, length-negated ts)) other);
}

with_constant : (x o s m : ℤ) → (x +ℤ o) ≡ s → (x +ℤ (m +ℤ o)) ≡ (m +ℤ s)
with_constant x o s m e = omega (arith, ints)

least-is : (a : ℕ → ℤ) (ts : List (ℤ × ℕ)) (m : ℤ) (ds : List (List Span)) (k : ℕ) → OthersFixed a ts ds k →
    (coefficient_at ts k *ℤ a (variable_at ts k) +ℤ (m +ℤ least_of_others ts ds k)) ≡ (m +ℤ sum_of a ts)
least-is a ts m ds k o = with_constant (coefficient_at ts k *ℤ a (variable_at ts k)) (least_of_others ts ds k) (sum_of a ts) m (least_of_others-fixed a ts ds k o.count o.inside o.all)

at_most-by_others : (a : ℕ → ℤ) (ts : List (ℤ × ℕ)) (m : ℤ) (ds : List (List Span)) (k : ℕ) → OthersFixed a ts ds k → AtMostKeeps ts m ds k (a (variable_at ts k)) → (m +ℤ sum_of a ts) ≤ℤ pos 0
at_most-by_others a ts m ds k o h = subst (λ (x : ℤ). x ≤ℤ pos 0) (least-is a ts m ds k o) h

both_ways : (m s t : ℤ) → t ≡ neg_ℤ s → (m +ℤ s) ≤ℤ pos 0 → (neg_ℤ m +ℤ t) ≤ℤ pos 0 → (m +ℤ s) ≡ pos 0
both_ways m s t e h k = omega (arith, ints, e, h, k)

pub stands-by_others : (rel : Rel) (a : ℕ → ℤ) (ts : List (ℤ × ℕ)) (m : ℤ) (ds : List (List Span)) (k : ℕ) → OthersFixed a ts ds k → SumKeeps rel ts m ds k (a (variable_at ts k)) → Stands rel (m +ℤ sum_of a ts)
stands-by_others Rel.AtMost a ts m ds k o h = at_most-by_others a ts m ds k o h
stands-by_others Rel.Equal a ts m ds k o h =
    both_ways m (sum_of a ts) (sum_of a (negated ts)) (sum_of-negated a ts) (at_most-by_others a ts m ds k o h.0)
    (at_most-by_others a (negated ts) (neg_ℤ m) ds k (others-negated a ts ds k o)
    (subst (λ (v : ℕ). AtMostKeeps (negated ts) (neg_ℤ m) ds k (a v)) (sym (variable_at-negated ts k)) h.1))
stands-by_others Rel.Unequal a ts m ds k o h =
    λ e. h (λ j l other. let f : IsFixedTo (domain_at ds j) (a (variable_at ts j)) = o.all j (omega (arith, o.count)) other in f.0 ∙ sym f.1) (least-is a ts m ds k o ∙ e)

-- ---- the places of a sum

-- the place of a variable, if it has one
pub place_or_none : (ts : List (ℤ × ℕ)) (m : ℕ) → ((k : ℕ) × (k < length ts) × (variable_at ts k ≡ m)) ⊎ ((j : ℕ) → j < length ts → variable_at ts j ≢ m)
place_or_none [] m = inr (λ j l. absurd (omega arith))
place_or_none (t ∷ ts) m = elim (same_or_not t.1 m) [
  | inl e ↦ inl (0, omega arith, e)
  | inr other ↦ elim (place_or_none ts m) [
    | inl (k, l, e) ↦ inl (suc k, omega arith, e)
    | inr none ↦ inr (apart t ts m other none)
  ]
]
  where
    same_or_not : (i j : ℕ) → (i ≡ j) ⊎ (i ≢ j)
    same_or_not i j = grind arith

    apart : (t : ℤ × ℕ) (ts : List (ℤ × ℕ)) (m : ℕ) → t.1 ≢ m → ((j : ℕ) → j < length ts → variable_at ts j ≢ m) → (j : ℕ) → j < length (t ∷ ts) → variable_at (t ∷ ts) j ≢ m
    apart t ts m other none zero l e = other e
    apart t ts m other none (suc j) l e = none j (omega arith) e

-- each place has a variable of its own
from_least : (least : ℕ) (ts : List (ℤ × ℕ)) (j : ℕ) → IsSum least ts → j < length ts → least ≤ variable_at ts j
unfolding IsSum
from_least least [] j s l = absurd (omega arith)
from_least least ((c, n) ∷ ts) zero s l = s.2
from_least least ((c, n) ∷ ts) (suc j) s l = let rest : suc n ≤ variable_at ts j = from_least (suc n) ts j s.3 (omega arith) in let low : least ≤ n = s.2 in omega arith

pub one-place : (least : ℕ) (ts : List (ℤ × ℕ)) (j k : ℕ) → IsSum least ts → j < length ts → k < length ts → variable_at ts j ≡ variable_at ts k → j ≡ k
unfolding IsSum
one-place least [] j k s l m e = absurd (omega arith)
one-place least ((c, n) ∷ ts) zero zero s l m e = refl
one-place least ((c, n) ∷ ts) zero (suc k) s l m e = absurd (let far : suc n ≤ variable_at ts k = from_least (suc n) ts k s.3 (omega arith) in let same : n ≡ variable_at ts k = e in omega arith)
one-place least ((c, n) ∷ ts) (suc j) zero s l m e = absurd (let far : suc n ≤ variable_at ts j = from_least (suc n) ts j s.3 (omega arith) in let same : variable_at ts j ≡ n = e in omega arith)
one-place least ((c, n) ∷ ts) (suc j) (suc k) s l m e = ap suc (one-place (suc n) ts j k s.3 (omega arith) (omega arith) e)

pub length-sum_places : (ts : List (ℤ × ℕ)) → length (sum_places ts) ≡ length ts
unfolding sum_places
length-sum_places [] = refl
length-sum_places (t ∷ ts) = ap suc (length-sum_places ts)

-- the variable of a term stands at its place
pub has-place : (ts : List (ℤ × ℕ)) (j : ℕ) → j < length ts → Contains (sum_places ts) (Item.Var (variable_at ts j))
unfolding sum_places
has-place [] j l = absurd (omega arith)
has-place (t ∷ ts) zero l = (0, omega arith, refl)
has-place (t ∷ ts) (suc j) l = let there = has-place ts j (omega arith) in (suc there.0, omega (arith, there.1), there.2)

-- what stands at a place is the variable of a term
pub is-term : (ts : List (ℤ × ℕ)) (y : Item) → Contains (sum_places ts) y → (j : ℕ) × (j < length ts) × (y ≡ Item.Var (variable_at ts j))
unfolding sum_places
is-term [] y (k, l, e) = absurd (omega arith)
is-term (t ∷ ts) y (zero, l, e) = (0, omega arith, sym e)
is-term (t ∷ ts) y (suc k, l, e) = let there = is-term ts y (k, omega arith, e) in (suc there.0, omega (arith, there.1), there.2)

pub has-variable : (ts : List (ℤ × ℕ)) (j : ℕ) → j < length ts → SumHasVariable ts (variable_at ts j)
unfolding SumHasVariable
has-variable [] j l = absurd (omega arith)
has-variable ((c, n) ∷ ts) zero l = inl refl
has-variable ((c, n) ∷ ts) (suc j) l = inr (has-variable ts j (omega arith))

-- where places have one value, by what their items come to
pub place-at : (f : Item → List Span) (ts : List (ℤ × ℕ)) (j : ℕ) → j < length ts → domain_at (map f (sum_places ts)) j ≡ f (Item.Var (variable_at ts j))
unfolding sum_places
place-at f [] j l = absurd (omega arith)
place-at f (t ∷ ts) zero l = refl
place-at f (t ∷ ts) (suc j) l = place-at f ts j (omega arith)
