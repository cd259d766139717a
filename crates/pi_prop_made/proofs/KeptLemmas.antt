-- Entries of a map as the terms that they stand for: what is found, put and taken.
use Rattle.std.specs.Prelude.{◌≡◌, ◌≢◌, ℕ, suc, ◌+◌, ◌<◌, ◌≤◌, ◌==◌, nat_lt, length, Bool, true, false, cond, List, [], ◌∷◌, Option, Some, None, ℤ, pos, ◌+ℤ◌, refl}
use Rattle.std.proofs.Common.{arith, tests, ltb-true, ltb-false, eqb-true, ◌∙◌, ap}
use Rattle.std.proofs.lemmas.Int.{ints}
use Rattle.std.specs.BTreeMap.{is_at, insert_entry}
use Rattle.std.specs.Map.{lookup, remove_entry}
use Rattle.std.specs.Ordering.{nat_cmp, is_eq, match_ordering}
use Rattle.std.specs.declared.cmp.Ordering.{Ordering}
use Rattle.std.specs.declared.cmp.Ordering.TheVariants.{Less, Equal, Greater}
use Rattle.pi_prop_spec.specs.PostingSums.{Ascend, coefficient}
use Rattle.pi_prop_made.specs.declared.coefficient.Coefficient.{Coefficient}
use Rattle.pi_prop_made.specs.Kept.{counted, terms_of, limit_of, limit_found, limits_of}

-- what is found, as it counts
abbrev pub number_found : Bool → Option Coefficient → ℤ
number_found f None = pos 0
number_found f (Some c) = counted f c

abbrev pub found : ℕ → List (ℕ × Coefficient) → Option Coefficient
found k es = lookup (is_at (nat_cmp k)) es

-- how two variables stand to each other, by the two tests
abbrev order_by : Bool → Bool → Ordering
order_by less same = cond less Less (cond same Equal Greater)

-- ---- terms ascend

ascend_less : (least l : ℕ) (ts : List (ℤ × ℕ)) → l ≤ least → Ascend least ts → Ascend l ts
unfolding Ascend
ascend_less least l [] h s = tt
ascend_less least l (t ∷ ts) h s = (s.0, omega (arith, s.1, h), s.2)

-- what lies below all of them isn't found
pub not_found : (f : Bool) (least k : ℕ) (es : List (ℕ × Coefficient)) → Ascend least (terms_of f es) → k < least → found k es ≡ None
unfolding Ascend terms_of
not_found f least k [] s h = refl
not_found f least k (e ∷ es) s h = by (not_found f (suc e.0) k es s.2 (omega (arith, h, s.1))) (nat_lt k e.0) (k == e.0) refl
  where
    by : found k es ≡ None → (less same : Bool) → (k == e.0) ≡ same → cond (is_eq (order_by less same)) (Some e.1) (found k es) ≡ None
    by rest true same i = rest
    by rest false true i = absurd (omega (arith, eqb-true k e.0 i, h, s.1))
    by rest false false i = rest

no_more : (x : ℤ) → x +ℤ pos 0 ≡ x
no_more x = omega (arith, ints)

-- the coefficient of a variable is what is found
pub coefficient-found : (f : Bool) (least k : ℕ) (es : List (ℕ × Coefficient)) → Ascend least (terms_of f es) → coefficient (terms_of f es) k ≡ number_found f (found k es)
unfolding Ascend terms_of coefficient
coefficient-found f least k [] s = refl
coefficient-found f least k (e ∷ es) s = by (coefficient-found f (suc e.0) k es s.2) (λ l. not_found f (suc e.0) k es s.2 l) (nat_lt k e.0) (k == e.0) refl refl
  where
    by : coefficient (terms_of f es) k ≡ number_found f (found k es) → (k < suc e.0 → found k es ≡ None) → (less same : Bool) → nat_lt k e.0 ≡ less → (k == e.0) ≡ same →
        cond same (counted f e.1 +ℤ coefficient (terms_of f es) k) (coefficient (terms_of f es) k) ≡ number_found f (cond (is_eq (order_by less same)) (Some e.1) (found k es))
    by rest none true true i j = absurd (omega (arith, ltb-true k e.0 i, eqb-true k e.0 j))
    by rest none true false i j = rest
    by rest none false true i j = ap (λ (x : ℤ). counted f e.1 +ℤ x) (rest ∙ ap (number_found f) (none (omega (arith, eqb-true k e.0 j)))) ∙ no_more (counted f e.1)
    by rest none false false i j = rest

-- what a map has at each variable, told by coefficients
pub same_variable : (k n : ℕ) → is_at (nat_cmp k) n ≡ (n == k)
same_variable k n = by (nat_lt k n) (k == n) (n == k) refl refl refl
  where
    by : (less same back : Bool) → nat_lt k n ≡ less → (k == n) ≡ same → (n == k) ≡ back → is_eq (order_by less same) ≡ back
    by true same true i j h = absurd (omega (arith, ltb-true k n i, eqb-true n k h))
    by true same false i j h = refl
    by false true true i j h = refl
    by false true false i j h = absurd (grind (arith, tests, j, h))
    by false false true i j h = absurd (grind (arith, tests, j, h))
    by false false false i j h = refl

-- ---- one coefficient is put, or taken

pub ascend-put : (f : Bool) (least k : ℕ) (c : Coefficient) (es : List (ℕ × Coefficient)) → Ascend least (terms_of f es) → least ≤ k → counted f c ≢ pos 0 → Ascend least (terms_of f (insert_entry nat_cmp es k c))
unfolding Ascend terms_of
ascend-put f least k c [] s l some = (some, l, tt)
ascend-put f least k c (e ∷ es) s l some = by (λ h. ascend-put f (suc e.0) k c es s.2 h some) (nat_lt k e.0) (k == e.0) refl refl
  where
    by : (suc e.0 ≤ k → Ascend (suc e.0) (terms_of f (insert_entry nat_cmp es k c))) → (less same : Bool) → nat_lt k e.0 ≡ less → (k == e.0) ≡ same →
        Ascend least (terms_of f (match_ordering (order_by less same) ((k, c) ∷ e ∷ es) ((e.0, c) ∷ es) (e ∷ insert_entry nat_cmp es k c)))
    by rest true same i j = (some, l, (s.0, ltb-true k e.0 i, s.2))
    by rest false true i j = (some, s.1, s.2)
    by rest false false i j = (s.0, s.1, rest (grind (arith, tests, ltb-false k e.0 i, j)))

pub ascend-taken : (f : Bool) (least k : ℕ) (es : List (ℕ × Coefficient)) → Ascend least (terms_of f es) → Ascend least (terms_of f (remove_entry (is_at (nat_cmp k)) es))
unfolding Ascend terms_of
ascend-taken f least k [] s = tt
ascend-taken f least k (e ∷ es) s = by (ascend-taken f (suc e.0) k es s.2) (is_at (nat_cmp k) e.0)
  where
    by : Ascend (suc e.0) (terms_of f (remove_entry (is_at (nat_cmp k)) es)) → (same : Bool) → Ascend least (terms_of f (cond same es (e ∷ remove_entry (is_at (nat_cmp k)) es)))
    by rest true = ascend_less (suc e.0) least (terms_of f es) (omega (arith, s.1)) s.2
    by rest false = (s.0, s.1, rest)

-- ---- and how many are at the limit

pub limits-put : (b f : Bool) (least k : ℕ) (c : Coefficient) (es : List (ℕ × Coefficient)) → Ascend least (terms_of f es) → limits_of b (insert_entry nat_cmp es k c) + limit_found b (found k es) ≡ limits_of b es + limit_of b c
unfolding Ascend terms_of limits_of
limits-put b f least k c [] s = omega arith
limits-put b f least k c (e ∷ es) s = by (limits-put b f (suc e.0) k c es s.2) (λ l. not_found f (suc e.0) k es s.2 l) (nat_lt k e.0) (k == e.0) refl refl
  where
    by : limits_of b (insert_entry nat_cmp es k c) + limit_found b (found k es) ≡ limits_of b es + limit_of b c → (k < suc e.0 → found k es ≡ None) → (less same : Bool) → nat_lt k e.0 ≡ less → (k == e.0) ≡ same →
        limits_of b (match_ordering (order_by less same) ((k, c) ∷ e ∷ es) ((e.0, c) ∷ es) (e ∷ insert_entry nat_cmp es k c)) + limit_found b (cond (is_eq (order_by less same)) (Some e.1) (found k es))
        ≡ (limit_of b e.1 + limits_of b es) + limit_of b c
    by rest none true same i j =
        let z : limit_found b (found k es) ≡ 0 = ap (limit_found b) (none (omega (arith, ltb-true k e.0 i))) in
        omega (arith, z)
    by rest none false true i j = omega arith
    by rest none false false i j = omega (arith, rest)

pub limits-taken : (b : Bool) (k : ℕ) (es : List (ℕ × Coefficient)) → limits_of b (remove_entry (is_at (nat_cmp k)) es) + limit_found b (found k es) ≡ limits_of b es
unfolding limits_of
limits-taken b k [] = refl
limits-taken b k (e ∷ es) = by (limits-taken b k es) (is_at (nat_cmp k) e.0)
  where
    by : limits_of b (remove_entry (is_at (nat_cmp k)) es) + limit_found b (found k es) ≡ limits_of b es → (same : Bool) →
        limits_of b (cond same es (e ∷ remove_entry (is_at (nat_cmp k)) es)) + limit_found b (cond same (Some e.1) (found k es)) ≡ limit_of b e.1 + limits_of b es
    by rest true = omega arith
    by rest false = omega (arith, rest)

pub length-terms_of : (f : Bool) (es : List (ℕ × Coefficient)) → length (terms_of f es) ≡ length es
unfolding terms_of
length-terms_of f [] = refl
length-terms_of f (e ∷ es) = grind (arith, length-terms_of f es)
