-- A constraint that was made and isn't refused keeps the limits.
use Rattle.std.specs.Prelude.{◌≡◌, ◌≢◌, ℕ, zero, suc, ◌<◌, ◌≤◌, ◌^◌, nat_lt, nat_le, Bool, true, false, ◌&&◌, cond, List, [], ◌∷◌, length, ℤ, neg_ℤ, int_le, nat_abs, Option, Some, None, Contains, slice_index_or, refl}
use Rattle.std.specs.Option.{option_or}
use Rattle.std.proofs.Common.{arith, leb-true, ltb-false, subst}
use Rattle.std.proofs.lemmas.Int.{ints}
use Rattle.pi_constraints.specs.declared.constraint.Item.{Item}
use Rattle.pi_constraints.specs.declared.constraint.Constraint.{Constraint}
use Rattle.pi_constraints.specs.declared.domain.TheConstants.{MAX_VALUE}
use Rattle.pi_constraints.specs.Constraint.{most_items, IsItem, AreItems, IsSum, IsSumWithinLimits, IsWithinLimits, SpeaksOf}
use Rattle.pi_prop_spec.specs.Steps.{Refusal, too_many_terms, wide_coefficient}
use Rattle.pi_prop_spec.specs.Limits.{are_narrow, is_value, are_values, refusal_by, refusal_of, first_refusal}
use Rattle.pi_prop_spec.proofs.FormLemmas.{AscendBelow, IsFormed, speaks_below}
use Rattle.pi_prop_spec.proofs.GrowLemmas.{AreFormed}

both_true : (p q : Bool) → (p && q) ≡ true → (p ≡ true) × (q ≡ true)
both_true true q e = (refl, e)
both_true false q e = absurd cc

-- so many at most, and narrow
kept : (count : ℕ) (narrow : Bool) → refusal_by count narrow ≡ None → (count ≤ most_items) × (narrow ≡ true)
kept count narrow e = by (nat_lt most_items count) narrow refl e
  where
    by : (many narrow : Bool) → nat_lt most_items count ≡ many → cond many (Some too_many_terms) (cond narrow None (Some wide_coefficient)) ≡ None → (count ≤ most_items) × (narrow ≡ true)
    by true narrow f e = absurd cc
    by false true f e = (ltb-false most_items count f, refl)
    by false false f e = absurd cc

item_within : (x : Item) → is_value x ≡ true → IsItem x
item_within (Item.Var n) e = tt
item_within (Item.Int i) e =
    let s : (int_le (neg_ℤ MAX_VALUE) i ≡ true) × (int_le i MAX_VALUE ≡ true) = both_true (int_le (neg_ℤ MAX_VALUE) i) (int_le i MAX_VALUE) e in
    (grind (arith, ints, s.0), grind (arith, ints, s.1))

items_within : (xs : List Item) → are_values xs ≡ true → AreItems xs
unfolding are_values AreItems
items_within [] e = tt
items_within (x ∷ xs) e = let s = both_true (is_value x) (are_values xs) e in (item_within x s.0, items_within xs s.1)

sum_within : (n least : ℕ) (ts : List (ℤ × ℕ)) → AscendBelow n least ts → are_narrow ts ≡ true → IsSum least ts
unfolding are_narrow AscendBelow IsSum
sum_within n least [] s e = tt
sum_within n least (t ∷ ts) s e =
    let r = both_true (nat_le (nat_abs t.0) (2 ^ 40)) (are_narrow ts) e in
    (s.0, leb-true (nat_abs t.0) (2 ^ 40) r.0, s.1, sum_within n (suc t.1) ts s.3 r.1)

-- the sum of a constraint
limited : (n : ℕ) (ts : List (ℤ × ℕ)) (k : ℤ) → ts ≢ [] → AscendBelow n 0 ts → length ts ≤ most_items → are_narrow ts ≡ true → nat_le (nat_abs k) (2 ^ 100) ≡ true → IsSumWithinLimits ts k
limited n ts k some s count narrow e = (some, count, sum_within n 0 ts s narrow, leb-true (nat_abs k) (2 ^ 100) e)

within_limits : (n : ℕ) (c : Constraint) → IsFormed n c → refusal_of c ≡ None → IsWithinLimits c
unfolding are_values AreItems
within_limits n (Constraint.Linear rel ts k) f e =
    let h = kept (length ts) (are_narrow ts && nat_le (nat_abs k) (2 ^ 100)) e in
    let s = both_true (are_narrow ts) (nat_le (nat_abs k) (2 ^ 100)) h.1 in
    limited n ts k f.0 f.1 h.0 s.0 s.1
within_limits n (Constraint.Product z x y) f e = let s = items_within (z ∷ x ∷ y ∷ []) (kept 0 (are_values (z ∷ x ∷ y ∷ [])) e).1 in (s.0, s.1.0, s.1.1.0)
within_limits n (Constraint.Absolute z x) f e = let s = items_within (z ∷ x ∷ []) (kept 0 (are_values (z ∷ x ∷ [])) e).1 in (s.0, s.1.0)
within_limits n (Constraint.Different items) f e = let h = kept (length items) (are_values items) e in (h.0, items_within items h.1)
within_limits n (Constraint.Element index items value) f e =
    let h = kept (length items) (are_values (index ∷ value ∷ items)) e in
    let s = items_within (index ∷ value ∷ items) h.1 in
    (h.0, s.0, s.1.1, s.1.0)
within_limits n (Constraint.Reified truth rel ts k) f e =
    let h = kept (length ts) (are_values (truth ∷ []) && are_narrow ts && nat_le (nat_abs k) (2 ^ 100)) e in
    let r = both_true (are_values (truth ∷ []) && are_narrow ts) (nat_le (nat_abs k) (2 ^ 100)) h.1 in
    let s = both_true (are_values (truth ∷ [])) (are_narrow ts) r.0 in
    ((items_within (truth ∷ []) s.0).0, limited n ts k f.1 f.2 h.0 s.1 r.1)
within_limits n (Constraint.Distinct items) f e = let h = kept (length items) (are_values items) e in (h.0, items_within items h.1)

-- ---- all that was made

neither : (o p : Option Refusal) → option_or o p ≡ None → (o ≡ None) × (p ≡ None)
neither None p e = (refl, e)
neither (Some r) p e = absurd cc

abbrev Kept : ℕ → Constraint → Type 0
Kept n c = IsWithinLimits c × ((m : ℕ) → SpeaksOf c m → m < n)

kept_at : (n : ℕ) (cs : List Constraint) (k : ℕ) (d : Constraint) → AreFormed n cs → first_refusal cs ≡ None → k < length cs → Kept n (slice_index_or cs k d)
unfolding AreFormed first_refusal
kept_at n [] k d f e l = absurd (omega (arith, l))
kept_at n (c ∷ cs) zero d f e l = (within_limits n c f.0 (neither (refusal_of c) (first_refusal cs) e).0, speaks_below n c f.0)
kept_at n (c ∷ cs) (suc k) d f e l = kept_at n cs k d f.1 (neither (refusal_of c) (first_refusal cs) e).1 (omega (arith, l))

pub all_kept : (n : ℕ) (cs : List Constraint) (c : Constraint) → AreFormed n cs → first_refusal cs ≡ None → Contains cs c → IsWithinLimits c × ((m : ℕ) → SpeaksOf c m → m < n)
all_kept n cs c f e h = subst (Kept n) h.2 (kept_at n cs h.0 c f e h.1)
