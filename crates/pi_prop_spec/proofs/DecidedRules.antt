-- The rules of filters as tests: they decide what they say.
use Rattle.std.specs.Prelude.{◌≡◌, ◌≢◌, ℕ, zero, suc, ◌==◌, ◌<◌, ◌≤◌, nat_le, Bool, true, not, cond, ◌&&◌, ◌||◌, IsTrue, List, [], ◌∷◌, length, ℤ, pos, neg_ℤ, ◌-ℤ◌, ◌*ℤ◌, ◌≤ℤ◌, int_le, refl}
use Rattle.std.specs.Bool.{Decides}
use Rattle.std.specs.Ordering.{int_eq}
use Rattle.std.proofs.Common.{arith, sym, ◌∙◌, subst}
use Rattle.std.proofs.lemmas.Bool.{and_parts, and_from}
use Rattle.std.proofs.lemmas.Bool.Decides.{Decides-eqb, Decides-int_eq, Decides-like, Decides-not, Decides-and}
use Rattle.pi_constraints.specs.declared.constraint.Rel.{Rel}
use Rattle.pi_constraints.specs.declared.domain.Span.{Span}
use Rattle.pi_constraints.specs.Domain.{IsDomain, has_value, common}
use Rattle.pi_constraints.proofs.CommonLemmas.{IsDomain-common, has_value-common}
use Rattle.pi_prop_spec.specs.Ends.{least_of, greatest_of, IsBetween, IsFixed, IsFixedTo}
use Rattle.pi_prop_spec.specs.Places.{domain_at}
use Rattle.pi_prop_spec.specs.Sums.{least_with, negated, AtMostKeeps, EqualKeeps, AreOthersFixed, UnequalKeeps, SumKeeps, OppositeKeeps}
use Rattle.pi_prop_spec.specs.Rules.{DifferentKeeps, ShareAValue, ElementKeeps, least_corner, greatest_corner, FactorKeeps, ProductKeeps, AbsoluteKeeps}
use Rattle.pi_prop_spec.specs.Decided.{if_so, is_empty, is_fixed, is_fixed_to, is_between, at_most_keeps, equal_keeps, are_others_fixed, unequal_keeps, sum_keeps, opposite_keeps, different_keeps, is_inside, share_a_value, index_keeps, value_keeps, element_keeps, factor_keeps, product_keeps, least_magnitude, greatest_magnitude, absolute_keeps}
use Rattle.pi_prop_spec.proofs.EndLemmas.{least-has, not_empty}
use Rattle.pi_prop_spec.proofs.MagnitudeLemmas.{least_size, greatest_size, least_from, greatest_from}
use Rattle.pi_prop_spec.proofs.DecidedTests.{le-decides, nat_le-decides, if_so-decides, unless-decides, cond-decides, each_below-decides, some_below-decides}

-- ---- domains

pub some-decides : (d : List Span) → Decides (not (is_empty d)) (d ≢ [])
some-decides [] = (λ e. absurd (cc), λ h. absurd (h refl))
some-decides (s ∷ ss) = (λ e same. absurd (cc), λ h. refl)

pub fixed-decides : (d : List Span) → Decides (is_fixed d) (IsFixed d)
fixed-decides d = Decides-int_eq (least_of d) (greatest_of d)

pub fixed_to-decides : (d : List Span) (n : ℤ) → Decides (is_fixed_to d n) (IsFixedTo d n)
fixed_to-decides d n = Decides-and (int_eq (least_of d) n) (int_eq (greatest_of d) n) (Decides-int_eq (least_of d) n) (Decides-int_eq (greatest_of d) n)

pub inside-decides : (a b n : ℤ) → Decides (is_inside a b n) ((a ≤ℤ n) × (n ≤ℤ b))
inside-decides a b n = Decides-and (int_le a n) (int_le n b) (le-decides a n) (le-decides n b)

-- ---- sums

at_most-decides : (terms : List (ℤ × ℕ)) (constant : ℤ) (ds : List (List Span)) (k : ℕ) (n : ℤ) → Decides (at_most_keeps terms constant ds k n) (AtMostKeeps terms constant ds k n)
at_most-decides terms constant ds k n = le-decides (least_with terms constant ds k n) (pos 0)

equal-decides : (terms : List (ℤ × ℕ)) (constant : ℤ) (ds : List (List Span)) (k : ℕ) (n : ℤ) → Decides (equal_keeps terms constant ds k n) (EqualKeeps terms constant ds k n)
equal-decides terms constant ds k n =
    Decides-and (at_most_keeps terms constant ds k n) (at_most_keeps (negated terms) (neg_ℤ constant) ds k n)
    (at_most-decides terms constant ds k n) (at_most-decides (negated terms) (neg_ℤ constant) ds k n)

others_fixed-decides : (ds : List (List Span)) (k : ℕ) → Decides (are_others_fixed ds k) (AreOthersFixed ds k)
others_fixed-decides ds k = each_below-decides (λ j. j == k || is_fixed (domain_at ds j)) (λ j. j ≢ k → IsFixed (domain_at ds j)) (length ds)
    (λ j l. unless-decides (j == k) (is_fixed (domain_at ds j)) (Decides-eqb j k) (fixed-decides (domain_at ds j)))

unequal-decides : (terms : List (ℤ × ℕ)) (constant : ℤ) (ds : List (List Span)) (k : ℕ) (n : ℤ) → Decides (unequal_keeps terms constant ds k n) (UnequalKeeps terms constant ds k n)
unequal-decides terms constant ds k n =
    if_so-decides (are_others_fixed ds k) (not (int_eq (least_with terms constant ds k n) (pos 0))) (others_fixed-decides ds k)
    (λ p. Decides-not (int_eq (least_with terms constant ds k n) (pos 0)) (Decides-int_eq (least_with terms constant ds k n) (pos 0)))

pub sum-decides : (rel : Rel) (terms : List (ℤ × ℕ)) (constant : ℤ) (ds : List (List Span)) (k : ℕ) (n : ℤ) → Decides (sum_keeps rel terms constant ds k n) (SumKeeps rel terms constant ds k n)
sum-decides Rel.Equal terms constant ds k n = equal-decides terms constant ds k n
sum-decides Rel.Unequal terms constant ds k n = unequal-decides terms constant ds k n
sum-decides Rel.AtMost terms constant ds k n = at_most-decides terms constant ds k n

pub opposite-decides : (rel : Rel) (terms : List (ℤ × ℕ)) (constant : ℤ) (ds : List (List Span)) (k : ℕ) (n : ℤ) → Decides (opposite_keeps rel terms constant ds k n) (OppositeKeeps rel terms constant ds k n)
opposite-decides Rel.Equal terms constant ds k n = unequal-decides terms constant ds k n
opposite-decides Rel.Unequal terms constant ds k n = equal-decides terms constant ds k n
opposite-decides Rel.AtMost terms constant ds k n = at_most-decides (negated terms) (pos 1 -ℤ constant) ds k n

-- ---- Different

other-decides : (d : List Span) (n : ℤ) → Decides (not (is_fixed_to d n)) (IsFixed d → n ≢ least_of d)
other-decides d n = Decides-like (not (is_fixed_to d n)) (λ h fixed same. h (sym same, sym fixed ∙ sym same)) (λ h both. h (both.0 ∙ sym both.1) (sym both.0))
    (Decides-not (is_fixed_to d n) (fixed_to-decides d n))

pub different-decides : (ds : List (List Span)) (k : ℕ) (n : ℤ) → Decides (different_keeps ds k n) (DifferentKeeps ds k n)
different-decides ds k n = each_below-decides (λ j. j == k || not (is_fixed_to (domain_at ds j) n)) (λ j. j ≢ k → IsFixed (domain_at ds j) → n ≢ least_of (domain_at ds j)) (length ds)
    (λ j l. unless-decides (j == k) (not (is_fixed_to (domain_at ds j) n)) (Decides-eqb j k) (other-decides (domain_at ds j) n))

-- ---- Element

share-decides : (d e : List Span) → IsDomain d → IsDomain e → Decides (share_a_value d e) (ShareAValue d e)
share-decides d e up vp = Decides-like (share_a_value d e)
    (λ some.
    let n : ℤ = least_of (common d e) in
    let there : has_value (common d e) n ≡ true = least-has (common d e) (IsDomain-common d e up vp) some in
    let both = and_parts (has_value d n) (has_value e n) (sym (has_value-common d e n) ∙ there) in
    (n, both.0, both.1))
    (λ h. not_empty (common d e) h.0 (has_value-common d e h.0 ∙ and_from (has_value d h.0) (has_value e h.0) h.1 h.2))
    (some-decides (common d e))

abbrev Each : List (List Span) → ℕ → Type 0
Each ds many = (k : ℕ) → k < many → IsDomain (domain_at ds k)

index-decides : (count : ℕ) (ds : List (List Span)) (n : ℤ) → Each ds (suc (suc count)) →
    Decides (index_keeps count ds n) ((i : ℕ) × (1 ≤ i) × (i ≤ count) × (n ≡ pos i) × ShareAValue (domain_at ds i) (domain_at ds (suc count)))
index-decides count ds n up = Decides-like (index_keeps count ds n)
    (λ h. (suc h.0, omega arith, omega (arith, h.1), h.2.0, h.2.1))
    (λ h. by h.0 h.1 h.2 h.3 h.4)
    (some_below-decides (λ i. int_eq n (pos (suc i)) && share_a_value (domain_at ds (suc i)) (domain_at ds (suc count)))
    (λ i. (n ≡ pos (suc i)) × ShareAValue (domain_at ds (suc i)) (domain_at ds (suc count))) count
    (λ i l. Decides-and (int_eq n (pos (suc i))) (share_a_value (domain_at ds (suc i)) (domain_at ds (suc count))) (Decides-int_eq n (pos (suc i)))
    (share-decides (domain_at ds (suc i)) (domain_at ds (suc count)) (up (suc i) (omega (arith, l))) (up (suc count) (omega arith)))))
  where
    by : (i : ℕ) → 1 ≤ i → i ≤ count → n ≡ pos i → ShareAValue (domain_at ds i) (domain_at ds (suc count)) →
        (j : ℕ) × (j < count) × ((n ≡ pos (suc j)) × ShareAValue (domain_at ds (suc j)) (domain_at ds (suc count)))
    by zero low high e share = absurd (omega (arith, low))
    by (suc j) low high e share = (j, omega (arith, high), (e, share))

value-decides : (count : ℕ) (ds : List (List Span)) (n : ℤ) →
    Decides (value_keeps count ds n) ((i : ℕ) × (1 ≤ i) × (i ≤ count) × IsTrue (has_value (domain_at ds 0) (pos i)) × IsTrue (has_value (domain_at ds i) n))
value-decides count ds n = Decides-like (value_keeps count ds n)
    (λ h. (suc h.0, omega arith, omega (arith, h.1), h.2.0, h.2.1))
    (λ h. by h.0 h.1 h.2 h.3 h.4)
    (some_below-decides (λ i. has_value (domain_at ds 0) (pos (suc i)) && has_value (domain_at ds (suc i)) n)
    (λ i. IsTrue (has_value (domain_at ds 0) (pos (suc i))) × IsTrue (has_value (domain_at ds (suc i)) n)) count
    (λ i l. Decides-and (has_value (domain_at ds 0) (pos (suc i))) (has_value (domain_at ds (suc i)) n) (λ e. e, λ e. e) (λ e. e, λ e. e)))
  where
    by : (i : ℕ) → 1 ≤ i → i ≤ count → IsTrue (has_value (domain_at ds 0) (pos i)) → IsTrue (has_value (domain_at ds i) n) →
        (j : ℕ) × (j < count) × (IsTrue (has_value (domain_at ds 0) (pos (suc j))) × IsTrue (has_value (domain_at ds (suc j)) n))
    by zero low high index item = absurd (omega (arith, low))
    by (suc j) low high index item = (j, omega (arith, high), (index, item))

abbrev ItemKeeps : ℕ → List (List Span) → ℕ → ℤ → Type 0
ItemKeeps count ds k n = (k ≤ count) × IsFixedTo (domain_at ds 0) (pos k) → IsTrue (has_value (domain_at ds (suc count)) n)

pub element-decides : (count : ℕ) (ds : List (List Span)) (k : ℕ) (n : ℤ) → Each ds (suc (suc count)) → Decides (element_keeps count ds k n) (ElementKeeps count ds k n)
element-decides count ds k n up = cond-decides (k == 0) (index_keeps count ds n) (cond (k == suc count) (value_keeps count ds n) (if_so (nat_le k count && is_fixed_to (domain_at ds 0) (pos k)) (has_value (domain_at ds (suc count)) n))) (Decides-eqb k 0)
    (λ e. Decides-like (index_keeps count ds n)
    (λ h. record { index = λ at. h; item = λ low high fixed. absurd (omega (arith, low, e)); value = λ at. absurd (omega (arith, at, e)) })
    (λ h. h.index e) (index-decides count ds n up))
    (λ other. cond-decides (k == suc count) (value_keeps count ds n) (if_so (nat_le k count && is_fixed_to (domain_at ds 0) (pos k)) (has_value (domain_at ds (suc count)) n)) (Decides-eqb k (suc count))
    (λ e. Decides-like (value_keeps count ds n)
    (λ h. record { index = λ at. absurd (other at); item = λ low high fixed. absurd (omega (arith, high, e)); value = λ at. h })
    (λ h. h.value e) (value-decides count ds n))
    (λ another. Decides-like (if_so (nat_le k count && is_fixed_to (domain_at ds 0) (pos k)) (has_value (domain_at ds (suc count)) n))
    (λ h. record { index = λ at. absurd (other at); item = λ low high fixed. h (high, fixed); value = λ at. absurd (another at) })
    (λ (h : ElementKeeps count ds k n) both. h.item (low k other) both.0 both.1)
    (if_so-decides (nat_le k count && is_fixed_to (domain_at ds 0) (pos k)) (has_value (domain_at ds (suc count)) n)
    (Decides-and (nat_le k count) (is_fixed_to (domain_at ds 0) (pos k)) (nat_le-decides k count) (fixed_to-decides (domain_at ds 0) (pos k))) (λ p. (λ e. e, λ e. e)))))
  where
    low : (k : ℕ) → (k ≡ 0 → ⊥) → 1 ≤ k
    low zero none = absurd (none refl)
    low (suc j) none = omega arith

-- ---- Product

factor-decides : (product other : List Span) (n : ℤ) → Decides (factor_keeps product other n) (FactorKeeps product other n)
factor-decides product other n = Decides-like (factor_keeps product other n)
    (λ h c fixed some. subst (λ (z : ℤ). IsBetween product (z *ℤ n)) fixed.0 (h (fixed.0 ∙ sym fixed.1, λ e. some (sym fixed.0 ∙ e))))
    (λ h both. h (least_of other) (refl, sym both.0) both.1)
    (if_so-decides (is_fixed other && not (int_eq (least_of other) (pos 0))) (is_between product (least_of other *ℤ n))
    (Decides-and (is_fixed other) (not (int_eq (least_of other) (pos 0))) (fixed-decides other) (Decides-not (int_eq (least_of other) (pos 0)) (Decides-int_eq (least_of other) (pos 0))))
    (λ p. inside-decides (least_of product) (greatest_of product) (least_of other *ℤ n)))

not_two : (k m n : ℕ) → k ≡ m → k ≡ n → (m ≡ n → ⊥) → ⊥
not_two k m n e f none = none (sym e ∙ f)

pub product-decides : (ds : List (List Span)) (k : ℕ) (n : ℤ) → Decides (product_keeps ds k n) (ProductKeeps ds k n)
product-decides ds k n =
    let low : ℤ = least_corner (domain_at ds 1) (domain_at ds 2) in
    let high : ℤ = greatest_corner (domain_at ds 1) (domain_at ds 2) in
    let first : Bool = factor_keeps (domain_at ds 0) (domain_at ds 2) n in
    let second : Bool = factor_keeps (domain_at ds 0) (domain_at ds 1) n in
    cond-decides (k == 0) (is_inside low high n) (cond (k == 1) first (if_so (k == 2) second)) (Decides-eqb k 0)
    (λ e. Decides-like (is_inside low high n)
    (λ h. record { product = λ at. h; first = λ at. absurd (omega (arith, at, e)); second = λ at. absurd (omega (arith, at, e)) })
    (λ (h : ProductKeeps ds k n). h.product e) (inside-decides low high n))
    (λ other. cond-decides (k == 1) first (if_so (k == 2) second) (Decides-eqb k 1)
    (λ e. Decides-like first
    (λ h. record { product = λ at. absurd (other at); first = λ at. h; second = λ at. absurd (omega (arith, at, e)) })
    (λ (h : ProductKeeps ds k n). h.first e) (factor-decides (domain_at ds 0) (domain_at ds 2) n))
    (λ another. Decides-like (if_so (k == 2) second)
    (λ h. record { product = λ at. absurd (other at); first = λ at. absurd (another at); second = h })
    (λ (h : ProductKeeps ds k n) e. h.second e)
    (if_so-decides (k == 2) second (Decides-eqb k 2) (λ e. factor-decides (domain_at ds 0) (domain_at ds 1) n))))

-- ---- Absolute

pub absolute-decides : (ds : List (List Span)) (k : ℕ) (n : ℤ) → least_of (domain_at ds 1) ≤ℤ greatest_of (domain_at ds 1) → Decides (absolute_keeps ds k n) (AbsoluteKeeps ds k n)
absolute-decides ds k n o =
    let d : List Span = domain_at ds 1 in
    let most : ℤ = greatest_of (domain_at ds 0) in
    cond-decides (k == 0) (is_inside (least_magnitude d) (greatest_magnitude d) n) (if_so (k == 1) (is_inside (neg_ℤ most) most n)) (Decides-eqb k 0)
    (λ e. Decides-like (is_inside (least_magnitude d) (greatest_magnitude d) n)
    (λ h. record {
      least = λ at. least_from (least_of d) (greatest_of d) n o h.0;
      greatest = λ at. greatest_from (least_of d) (greatest_of d) n o h.1;
      operand = λ at. absurd (omega (arith, at, e));
    })
    (λ (h : AbsoluteKeeps ds k n).
    let u = h.least e in
    let v = h.greatest e in
    (least_size (least_of d) (greatest_of d) u.0 n u.1.0 u.1.1 u.2, greatest_size (least_of d) (greatest_of d) v.0 n v.1.0 v.1.1 v.2))
    (inside-decides (least_magnitude d) (greatest_magnitude d) n))
    (λ other. Decides-like (if_so (k == 1) (is_inside (neg_ℤ most) most n))
    (λ h. record { least = λ at. absurd (other at); greatest = λ at. absurd (other at); operand = h })
    (λ (h : AbsoluteKeeps ds k n) e. h.operand e)
    (if_so-decides (k == 1) (is_inside (neg_ℤ most) most n) (Decides-eqb k 1) (λ e. inside-decides (neg_ℤ most) most n)))
